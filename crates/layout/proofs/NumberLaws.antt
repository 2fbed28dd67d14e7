-- Laws of numbers as they are read. Assumes nothing.
use Prim.Native.Nat.{ℕ, ◌+◌, ◌-◌, ◌*◌, ◌≤◌, ◌<◌}
use native.Mathlib.Nat.{le_trans, le_refl, suc-ne-zero}
use native.Mathlib.Numerals.{add-one}
use native.Mathlib.Omega.{arith}
use mathlib.Core.Path.{◌≡◌, refl, sym, ap, ◌∙◌}
use mathlib.Core.Bool.{true, false}
use mathlib.Core.List.{List, [], ◌∷◌}
use lib.ListN.{length, get_or, take, drop, drop_of_length-le, length-take, length-drop}
use lib.Seq.{drop-cons, take_all}
use lib.Dec.{leb}
use borrow.Author.Tests.{le-leb, lt-leb, lt-ltb, le-ltb, leb-true}
use Rattle.std.specs.Prelude.{Ok, Err}
use Rattle.layout.specs.declared.number.NumberFault.TheVariants.{NotNumber, Over}
use Rattle.layout.specs.Number.{is_digit, all_digits, starts_well, is_number, value_from, value, below, number_of}
use Rattle.layout.specs.Steps.Number.{digits, push_digit}
use Rattle.layout.proofs.Cases.{by_bool, by-lt, and_left, and_right}

-- ---- digits
module _ (b : ℕ) where
  pub digit-is : 48 ≤ b → b ≤ 57 → is_digit b ≡ true
  unfolding is_digit
  digit-is p q = rw (le-leb 48 b p, le-leb b 57 q)

  pub digit_low : b < 48 → is_digit b ≡ false
  unfolding is_digit
  digit_low p = rw (lt-leb 48 b p)

  pub digit-from : is_digit b ≡ true → 48 ≤ b
  unfolding is_digit
  digit-from e = leb-true 48 b (and_left (leb 48 b) (leb b 57) e)

  pub digit-to : is_digit b ≡ true → b ≤ 57
  unfolding is_digit
  digit-to e = leb-true b 57 (and_right (leb 48 b) (leb b 57) e)

-- ---- a turn of the loop that reads digits, at the place i
module _ (s : List ℕ) (i : ℕ) (h : i < length s) where
  pub digits-stop : is_digit (get_or s i 0) ≡ false → digits (drop i s) ≡ []
  unfolding digits
  digits-stop e = rw (drop-cons s i 0 h, e)

  pub digits-next : is_digit (get_or s i 0) ≡ true → digits (drop i s) ≡ get_or s i 0 ∷ digits (drop (i + 1) s)
  unfolding digits
  digits-next e = rw (add-one, drop-cons s i 0 h, e)

pub digits-end : (s : List ℕ) (i : ℕ) → length s ≤ i → digits (drop i s) ≡ []
unfolding digits
digits-end s i h = rw (drop_of_length-le s h)

-- a value that is not below the bound stays so, whatever digits follow
from-ge : (v : ℕ) (bs : List ℕ) → v ≤ value_from v bs
unfolding value_from
from-ge v [] = le_refl v
from-ge v (b ∷ bs) = le_trans (omega arith) (from-ge (v * 10 + (b - 48)) bs)

pub below-value : (bound n : ℕ) → n < bound → below bound n ≡ Ok n
unfolding below
below-value bound n h = rw (lt-ltb n bound h)

pub below-not : (bound n : ℕ) → bound ≤ n → below bound n ≡ Err Over
unfolding below
below-not bound n h = rw (le-ltb n bound h)

pub below-push : (bound v b : ℕ) (bs : List ℕ)
    → below bound (value_from v (b ∷ bs)) ≡ below bound (value_from (push_digit bound v b) bs)
unfolding value_from push_digit
below-push bound v b bs =
    by-lt v bound
    (λ h. rw (lt-ltb v bound h))
    (λ h.
    rw (le-ltb v bound h)
    (below-not bound (value_from (v * 10 + (b - 48)) bs) (le_trans (omega arith) (from-ge (v * 10 + (b - 48)) bs))
    ∙ sym (below-not bound (value_from v bs) (le_trans h (from-ge v bs)))))

pub below_none : (bound v : ℕ) → below bound (value_from v []) ≡ below bound v
unfolding value_from
below_none bound v = refl

-- ---- the digits that a list begins with
pub digits-all : (s : List ℕ) → all_digits (digits s) ≡ true
unfolding digits all_digits
digits-all [] = refl
digits-all (b ∷ s) =
    let ih = digits-all s in
    by_bool (is_digit b) (λ e. rw (e, e) ih) (λ e. rw e)

pub digits-prefix : (s : List ℕ) → take (length (digits s)) s ≡ digits s
unfolding digits
digits-prefix [] = refl
digits-prefix (b ∷ s) =
    let ih = digits-prefix s in
    by_bool (is_digit b) (λ e. rw e (ap (λ (l : List ℕ). b ∷ l) ih)) (λ e. rw e)

pub digits-few : (s : List ℕ) → length (digits s) ≤ length s
digits-few s = omega (arith, ap length (digits-prefix s), length-take (length (digits s)) s)

pub digits-whole : (s : List ℕ) → all_digits s ≡ true → digits s ≡ s
unfolding digits all_digits
digits-whole [] e = refl
digits-whole (x ∷ s) e =
    rw (and_left (is_digit x) (all_digits s) e) (ap (λ (l : List ℕ). x ∷ l) (digits-whole s (and_right (is_digit x) (all_digits s) e)))

-- ---- a loop that reads digits, at the place i: the value v so far and the digits that are left say what all digits do
pub record Reading (bound : ℕ) (s : List ℕ) (i v : ℕ) : Type 0 where
  pub count : length (digits s) ≡ i + length (digits (drop i s))
  pub says : below bound (value (digits s)) ≡ below bound (value_from v (digits (drop i s)))

pub reading-begins : (bound : ℕ) (s : List ℕ) → Reading bound s 0 0
reading-begins bound s = record { count = omega arith; says = refl }

module _ {bound : ℕ} {s : List ℕ} {i v : ℕ} (r : Reading bound s i v) where
  pub reading-next : i < length s → is_digit (get_or s i 0) ≡ true → (w : ℕ) → w ≡ push_digit bound v (get_or s i 0) → Reading bound s (i + 1) w
  reading-next h e w q =
      let more = digits-next s i h e in
      record {
        count = omega (arith, r.count, ap length more);
        says = r.says ∙ rw (more, q) (below-push bound v (get_or s i 0) (digits (drop (i + 1) s)));
      }

  -- no digit is left
  pub reading-over : digits (drop i s) ≡ [] → (below bound v ≡ below bound (value (digits s))) × (i ≡ length (digits s))
  reading-over e =
      (sym (r.says ∙ ap (λ (l : List ℕ). below bound (value_from v l)) e ∙ below_none bound v), omega (arith, r.count, ap length e))

-- ---- how a number starts
pub starts_none : (p : List ℕ) → length p ≡ 0 → starts_well p ≡ false
unfolding starts_well
starts_none [] h = refl
starts_none (a ∷ p) h = absurd (suc-ne-zero (length p) h)

module _ (s : List ℕ) (a e : ℕ) (from : a ≤ e) (to : e ≤ length s) where
  pub cut-long : length (take (e - a) (drop a s)) ≡ e - a
  cut-long = simp (length-take, length-drop) (omega arith)

-- ---- a field as a number
module _ (f : List ℕ) where
  pub number-starts : is_number f ≡ true → starts_well f ≡ true
  unfolding is_number
  number-starts e = and_left (starts_well f) (all_digits f) e

  pub starts-not : starts_well f ≡ false → is_number f ≡ false
  unfolding is_number
  starts-not e = rw e

  pub number_digits : is_number f ≡ true → all_digits f ≡ true
  unfolding is_number
  number_digits e = and_right (starts_well f) (all_digits f) e

  pub number_is : starts_well f ≡ true → all_digits f ≡ true → is_number f ≡ true
  unfolding is_number
  number_is p q = rw (p, q)

  -- its digits are all of it, or it is none
  pub digits-short : length (digits f) < length f → is_number f ≡ false
  digits-short h =
      by_bool (is_number f)
      (λ e. absurd (omega (arith, ap length (digits-whole f (number_digits e)))))
      (λ e. e)

  pub digits-full : length f ≤ length (digits f) → digits f ≡ f
  digits-full h = sym (digits-prefix f) ∙ take_all (length (digits f)) f h

  -- the digits that it begins with, where they start well
  pub digits-number : starts_well (digits f) ≡ true → is_number (digits f) ≡ true
  unfolding is_number
  digits-number e = rw (e, digits-all f) refl

module _ (bound : ℕ) (f : List ℕ) where
  pub number-not : is_number f ≡ false → number_of bound f ≡ Err NotNumber
  unfolding number_of
  number-not e = rw e

  pub number-below : is_number f ≡ true → number_of bound f ≡ below bound (value f)
  unfolding number_of
  number-below e = rw e

  -- what its digits say, where there are no other bytes and it starts well
  pub number-read : (v : ℕ) → below bound v ≡ below bound (value (digits f)) → length f ≤ length (digits f) → starts_well f ≡ true
      → number_of bound f ≡ below bound v
  number-read v says h e =
      let d = digits-full f h in
      number-below (rw d at (digits-number f (rw d e))) ∙ sym (rw d at says)

  pub number-value : is_number f ≡ true → value f < bound → number_of bound f ≡ Ok (value f)
  number-value e h = number-below e ∙ below-value bound (value f) h

  pub number-over : is_number f ≡ true → bound ≤ value f → number_of bound f ≡ Err Over
  number-over e h = number-below e ∙ below-not bound (value f) h

  -- what an answer tells of the field
  pub not-number : number_of bound f ≡ Err NotNumber → is_number f ≡ false
  not-number q =
      by_bool (is_number f)
      (λ e. by-lt (value f) bound
      (λ h. let o = number-value e h in absurd (cc))
      (λ h. let o = number-over e h in absurd (cc)))
      (λ e. e)

  pub over-number : number_of bound f ≡ Err Over → (is_number f ≡ true) × (bound ≤ value f)
  over-number q =
      by_bool (is_number f)
      (λ e. by-lt (value f) bound
      (λ h. let o = number-value e h in absurd (cc))
      (λ h. (e, h)))
      (λ e. let o = number-not e in absurd (cc))

  pub value-number : (v : ℕ) → number_of bound f ≡ Ok v → (is_number f ≡ true) × (value f ≡ v) × (v < bound)
  value-number v q =
      by_bool (is_number f)
      (λ e. by-lt (value f) bound
      (λ h. let o = number-value e h in let z : value f ≡ v = cc in (e, z, omega arith))
      (λ h. let o = number-over e h in absurd (cc)))
      (λ e. let o = number-not e in absurd (cc))
