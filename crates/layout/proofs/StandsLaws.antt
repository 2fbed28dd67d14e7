-- Laws of a field at a place of a text. Assumes nothing.
use Prim.Native.Nat.{ℕ, ◌+◌, ◌-◌, ◌≤◌, ◌<◌}
use native.Mathlib.Omega.{arith}
use mathlib.Core.Path.{◌≡◌, refl, sym, ap, ◌∙◌, subst}
use mathlib.Core.Bool.{Bool, true, false, false≢true}
use mathlib.Core.List.{List, [], ◌∷◌, ◌++◌, append_assoc}
use lib.ListN.{length, take, drop, length-append, length-drop, take-append-drop}
use lib.Seq.{drop-drop, take_all}
use lib.Dec.{eqb}
use lib.Pointwise.{pointwise}
use Rattle.std.specs.Prelude.{Option, Some, None, Result, Ok, Err}
use Rattle.layout.specs.declared.number.NumberFault.{NumberFault}
use Rattle.layout.specs.Word.{same}
use Rattle.layout.specs.Number.{is_number, value, number_of, spell}
use Rattle.layout.specs.Steps.Number.{digits}
use Rattle.layout.specs.Steps.Stands.{Stands, NumberAt, stands_at, told_at, number_at, spaced, spaced_number}
use Rattle.layout.specs.Steps.Leading as leading
use Rattle.layout.specs.Steps.Leading.{leading_number, behind_space, number_before_space}
use Rattle.layout.proofs.Cases.{by_bool, by-lt, by-eq}
use Rattle.layout.proofs.FillLaws.{tail-part}
use Rattle.layout.proofs.WordLaws.{same_true, same_false, same_is_pointwise, same_is_flipped}
use Rattle.layout.proofs.NumberLaws.{digits-prefix, digits-few, starts_none, number-starts, value-number}
use Rattle.layout.proofs.SpellLaws.{spell-value}

-- what stands between two places
pub stands-between : (s : List ℕ) (from end : ℕ) → from ≤ end → end ≤ length s → Stands (take (end - from) (drop from s)) from end s
stands-between s from end p q =
    let k : from + (end - from) ≡ end = omega arith in
    record {
      inside = q;
      whole =
          sym (take-append-drop (end - from) (drop from s))
          ∙ ap (λ (l : List ℕ). take (end - from) (drop from s) ++ l) (drop-drop (end - from) from s ∙ ap (λ (i : ℕ). drop i s) k);
    }

-- one behind the other
pub stands-then : {f g s : List ℕ} {a b c : ℕ} → Stands f a b s → Stands g b c s → Stands (f ++ g) a c s
stands-then {f} {g} {s} {a} {b} {c} p q = record {
  inside = q.inside;
  whole = p.whole ∙ ap (λ (l : List ℕ). f ++ l) q.whole ∙ sym (append_assoc f g (drop c s));
}

-- where a field ends
pub stands-end : {f s : List ℕ} {from end : ℕ} → from ≤ length s → Stands f from end s → end ≡ from + length f
stands-end {f} {s} {from} {end} start p =
    let n : length (drop from s) ≡ length f + length (drop end s) = ap length p.whole ∙ length-append f (drop end s) in
    omega (arith, n, p.inside, length-drop from s, length-drop end s)

-- ---- a word at a place
module _ (s w : List ℕ) (from : ℕ) where
  -- what `stands_at` compares
  pub word-compared : same (take (from + length w - from) (drop from s)) w ≡ stands_at w from s
  unfolding stands_at
  word-compared = let k : from + length w - from ≡ length w = omega arith in ap (λ (n : ℕ). same (take n (drop from s)) w) k

  -- what the library compares: what is left begins with the word
  pub word_begins : pointwise eqb w (take (length w) (take (length s - from) (drop from s))) ≡ stands_at w from s
  unfolding stands_at
  word_begins = rw (tail-part s from) (sym (same_is_flipped (take (length w) (drop from s)) w))

  -- a word that is longer than what is left does not stand there
  pub word-short : length s - from < length w → stands_at w from s ≡ false
  unfolding stands_at
  word-short h =
      let few : length (drop from s) ≤ length w = omega (arith, length-drop from s) in
      same_false (take (length w) (drop from s)) w
      (λ e.
      let n : length (drop from s) ≡ length w = ap length (sym (take_all (length w) (drop from s) few) ∙ e) in
      absurd (omega (arith, n, length-drop from s)))

  pub word_fits : from ≤ length s → stands_at w from s ≡ true → from + length w ≤ length s
  word_fits start e =
      by-lt (length s - from) (length w)
      (λ h. absurd (false≢true (sym (word-short h) ∙ e)))
      (λ h. omega arith)

  -- what the answer of `stands_at` tells
  pub word_stands : (t : Bool) → t ≡ stands_at w from s → from ≤ length s → t ≡ true → Stands w from (from + length w) s
  word_stands t q start e =
      subst (λ (f : List ℕ). Stands f from (from + length w) s) (same_true _ w (word-compared ∙ sym q ∙ e))
      (stands-between s from (from + length w) (omega arith) (word_fits start (sym q ∙ e)))

-- ---- a number at a place
-- what is told there is the field's value, up to the field's end
told-some : (from n : ℕ) (q : Result ℕ NumberFault) (r : NumberAt) → Some r ≡ told_at from n q
    → (v : ℕ) × (q ≡ Ok v) × (r.value ≡ v) × (r.end ≡ from + n)
told-some from n (Ok v) r e =
    let t : r ≡ record { value = v; end = from + n } = cc in
    (v, refl, ap (λ (a : NumberAt). a.value) t, ap (λ (a : NumberAt). a.end) t)
told-some from n (Err f) r e = absurd (cc)

module _ (s : List ℕ) (from bound : ℕ) where
  -- digits that are a number stand there as its spelling
  digits-stand : is_number (digits (drop from s)) ≡ true
      → Stands (spell (value (digits (drop from s)))) from (from + length (digits (drop from s))) s
  digits-stand is =
      let ds : List ℕ = digits (drop from s) in
      let some : length ds ≡ 0 → ⊥ = λ z. false≢true (sym (starts_none ds z) ∙ number-starts ds is) in
      let few = digits-few (drop from s) in
      let n : from + length ds - from ≡ length ds = omega arith in
      let c : take (from + length ds - from) (drop from s) ≡ ds = ap (λ (k : ℕ). take k (drop from s)) n ∙ digits-prefix (drop from s) in
      subst (λ (f : List ℕ). Stands f from (from + length ds) s) (c ∙ sym (spell-value ds is))
      (stands-between s from (from + length ds) (omega arith)
      (by-eq (length ds) 0 (λ z. absurd (some z)) (λ z. omega (arith, few, length-drop from s))))

  module _ (r : NumberAt) (q : Some r ≡ number_at bound from s) where
    told : (is_number (digits (drop from s)) ≡ true) × (value (digits (drop from s)) ≡ r.value) × (r.value < bound) × (r.end ≡ from + length (digits (drop from s)))
    unfolding number_at
    told =
        let t = told-some from (length (digits (drop from s))) (number_of bound (digits (drop from s))) r q in
        let n = value-number bound (digits (drop from s)) t.0 t.1 in
        (n.0, n.1 ∙ sym t.2, omega (arith, n.2, t.2), t.3)

    pub number-stands : Stands (spell r.value) from r.end s
    number-stands = rw (← told.1, told.3) (digits-stand told.0)

  -- with a space behind it
  spaced-some : (t : Option NumberAt) (r : NumberAt) → Some r ≡ spaced s t
      → (n : NumberAt) × (Some n ≡ t) × (stands_at (32 ∷ []) n.end s ≡ true) × (r.value ≡ n.value) × (r.end ≡ n.end + 1)
  unfolding spaced
  spaced-some None r q = absurd (cc)
  spaced-some (Some n) r q =
      by_bool (stands_at (32 ∷ []) n.end s)
      (λ e.
      let p : Some r ≡ Some (record { value = n.value; end = n.end + 1 }) = rw e at q in
      let t : r ≡ record { value = n.value; end = n.end + 1 } = cc in
      (n, refl, e, ap (λ (a : NumberAt). a.value) t, ap (λ (a : NumberAt). a.end) t))
      (λ e. let p : Some r ≡ None = rw e at q in absurd (cc))

  behind : (n r : NumberAt) → r.value ≡ n.value → r.end ≡ n.end + 1 → Stands (spell n.value ++ 32 ∷ []) from (n.end + 1) s
      → Stands (spell r.value ++ 32 ∷ []) from r.end s
  behind n r v e p = rw (v, e) p

  pub spaced-stands : (r : NumberAt) → Some r ≡ spaced_number bound from s → Stands (spell r.value ++ 32 ∷ []) from r.end s
  unfolding spaced_number
  spaced-stands r q =
      let t = spaced-some (number_at bound from s) r q in
      let p = number-stands t.0 t.1 in
      behind t.0 r t.3 t.4 (stands-then p (word_stands s (32 ∷ []) (t.0).end true (sym t.2) p.inside refl))

-- ---- what the running code reads, by places of the whole text
-- The functions go from left to right over what is left of a text, which is the text from a place on. So what they tell of it, by
-- `leading_number` and `number_before_space` (Leading) and by the library's `strip_prefix`, is what `number_at`, `spaced_number` and
-- `stands_at` tell of that place of the text, and the laws above are laws of what they read.
-- a number at a place, with what is left behind it
unfoldable pub cut_at : List ℕ → Option NumberAt → Option (ℕ × List ℕ)
cut_at s None = None
cut_at s (Some n) = Some (n.value, drop n.end s)

module _ (s : List ℕ) (from : ℕ) where
  told-cut : (n : ℕ) (q : Result ℕ NumberFault) → leading.told q (drop n (drop from s)) ≡ cut_at s (told_at from n q)
  unfolding cut_at
  told-cut n (Ok v) = ap (λ (l : List ℕ). Some (v, l)) (drop-drop n from s)
  told-cut n (Err f) = refl

  behind-cut : (t : Option NumberAt) → behind_space (cut_at s t) ≡ cut_at s (spaced s t)
  unfolding cut_at spaced stands_at
  behind-cut None = refl
  behind-cut (Some n) =
      by_bool (same (take 1 (drop n.end s)) (32 ∷ []))
      (λ e. rw e (ap (λ (l : List ℕ). Some (n.value, l)) (drop-drop 1 n.end s)))
      (λ e. rw e refl)

  module _ (bound : ℕ) where
    pub leading-at : leading_number bound (drop from s) ≡ cut_at s (number_at bound from s)
    unfolding leading_number number_at
    leading-at = told-cut (length (digits (drop from s))) (number_of bound (digits (drop from s)))

    pub before-space-at : number_before_space bound (drop from s) ≡ cut_at s (spaced_number bound from s)
    unfolding number_before_space spaced_number
    before-space-at = ap behind_space leading-at ∙ behind-cut (number_at bound from s)

  pub prefix-at : (w : List ℕ) → pointwise eqb (take (length w) (drop from s)) w ≡ stands_at w from s
  unfolding stands_at
  prefix-at w = sym (same_is_pointwise (take (length w) (drop from s)) w)

-- f was read of what is left of s from the place `from` on, and `rest` is left behind it
pub record Left (f : List ℕ) (from : ℕ) (rest s : List ℕ) : Type 0 where
  pub end : ℕ
  pub stands : Stands f from end s
  pub left : rest ≡ drop end s

cut-some : (s : List ℕ) (t : Option NumberAt) (v : ℕ) (rest : List ℕ) → cut_at s t ≡ Some (v, rest)
    → (n : NumberAt) × (Some n ≡ t) × (n.value ≡ v) × (rest ≡ drop n.end s)
unfolding cut_at
cut-some s None v rest e = absurd (cc)
cut-some s (Some n) v rest e =
    let t : ◌≡◌ {A = ℕ × List ℕ} (n.value, drop n.end s) (v, rest) = cc in
    (n, refl, ap (λ (p : ℕ × List ℕ). p.0) t, sym (ap (λ (p : ℕ × List ℕ). p.1) t))

module _ (s : List ℕ) (from : ℕ) where
  pub number-left : (bound v : ℕ) (rest : List ℕ) → leading_number bound (drop from s) ≡ Some (v, rest) → Left (spell v) from rest s
  number-left bound v rest e =
      let t = cut-some s (number_at bound from s) v rest (sym (leading-at s from bound) ∙ e) in
      record { end = (t.0).end; stands = rw t.2 at (number-stands s from bound t.0 t.1); left = t.3 }

  pub spaced-left : (bound v : ℕ) (rest : List ℕ) → number_before_space bound (drop from s) ≡ Some (v, rest) → Left (spell v ++ 32 ∷ []) from rest s
  spaced-left bound v rest e =
      let t = cut-some s (spaced_number bound from s) v rest (sym (before-space-at s from bound) ∙ e) in
      record { end = (t.0).end; stands = rw t.2 at (spaced-stands s from bound t.0 t.1); left = t.3 }

  pub word-left : (w rest : List ℕ) → from ≤ length s → pointwise eqb (take (length w) (drop from s)) w ≡ true → rest ≡ drop (length w) (drop from s) → Left w from rest s
  word-left w rest start e r =
      record { end = from + length w; stands = word_stands s w from true (sym e ∙ prefix-at s from w) start refl; left = r ∙ drop-drop (length w) from s }

-- fields that are read one behind the other, each of what the one before left
module _ {f s mid : List ℕ} {from : ℕ} (p : Left f from mid s) where
  pub left-then : {g rest : List ℕ} → Left g p.end rest s → Left (f ++ g) from rest s
  left-then q = record { end = q.end; stands = stands-then p.stands q.stands; left = q.left }

  pub number-then : (bound v : ℕ) (rest : List ℕ) → leading_number bound mid ≡ Some (v, rest) → Left (f ++ spell v) from rest s
  number-then bound v rest e = left-then (number-left s p.end bound v rest (rw p.left at e))

  pub spaced-then : (bound v : ℕ) (rest : List ℕ) → number_before_space bound mid ≡ Some (v, rest) → Left (f ++ (spell v ++ 32 ∷ [])) from rest s
  spaced-then bound v rest e = left-then (spaced-left s p.end bound v rest (rw p.left at e))

  pub word-then : (w rest : List ℕ) → pointwise eqb (take (length w) mid) w ≡ true → rest ≡ drop (length w) mid → Left (f ++ w) from rest s
  word-then w rest e r = left-then (word-left s p.end w rest p.stands.inside (rw p.left at e) (rw p.left at r))

  pub left-end : from ≤ length s → p.end ≡ from + length f
  left-end start = stands-end start p.stands
