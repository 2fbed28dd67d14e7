-- Laws of the decimal spelling. Assumes nothing.
use Prim.Native.Nat.{ℕ, zero, suc, ◌+◌, ◌-◌, ◌*◌, ◌/◌, ◌%◌, ◌^◌, ◌≤◌, ◌<◌}
use native.Mathlib.Nat.{not-suc-le-zero, le_of_suc-le-suc, pow-suc}
use native.Mathlib.Numerals.{add-one, sub-one}
use native.Mathlib.Omega.{arith}
use mathlib.Core.Path.{◌≡◌, refl, sym, ap, ◌∙◌}
use mathlib.Core.Bool.{Bool, true, false, not, false≢true}
use mathlib.Core.List.{List, [], ◌∷◌, ◌++◌, append-nil}
use lib.ListN.{length, drop, set, length-append}
use lib.Dec.{eqb, ltb}
use borrow.Author.Tests.{lt-ltb, le-ltb, ltb-true, ltb-false, eq-eqb, ne_eqb, eqb-false, not-true}
use Rattle.std.specs.Prelude.{Result, Ok, Err}
use Rattle.std.specs.Result.{result_eq}
use Rattle.layout.specs.declared.number.NumberFault.{NumberFault}
use Rattle.layout.specs.declared.number.NumberFault.TheVariants.{NotNumber, Over}
use Rattle.layout.specs.Word.{same}
use Rattle.layout.specs.Number.{is_digit, all_digits, starts_well, is_number, value_from, value, number_of, spell_within, spell_before, spell}
use Rattle.layout.specs.Steps.Number.{last_digits}
use Rattle.layout.proofs.Cases.{by-lt, by-eq, and_left, and_right}
use Rattle.layout.proofs.SplitLaws.{without}
use Rattle.layout.proofs.WordLaws.{same_false, same_refl}
use Rattle.layout.proofs.NumberLaws.{digit-is, digit-from, digit-to, number_is, number_digits, not-number, over-number, value-number}

-- ---- the two cases, whatever bounds the recursion
within_low : (k n : ℕ) (r : List ℕ) → n < 10 → spell_within (suc k) n r ≡ (48 + n) ∷ r
unfolding spell_within
within_low k n r h = rw (lt-ltb n 10 h, spell_within)

within-high : (k n : ℕ) (r : List ℕ) → 10 ≤ n → spell_within (suc k) n r ≡ spell_within k (n / 10) ((48 + n % 10) ∷ r)
unfolding spell_within
within-high k n r h = rw (le-ltb n 10 h, spell_within)

within-same-by : (k m n : ℕ) (r : List ℕ) (t : Bool) → ltb n 10 ≡ t → n < suc k → n < suc m
    → ((r' : List ℕ) → n / 10 < k → n / 10 < m → spell_within k (n / 10) r' ≡ spell_within m (n / 10) r')
    → spell_within (suc k) n r ≡ spell_within (suc m) n r
within-same-by k m n r true e hk hm ih = within_low k n r (ltb-true n 10 e) ∙ sym (within_low m n r (ltb-true n 10 e))
within-same-by k m n r false e hk hm ih =
    let h = ltb-false n 10 e in
    within-high k n r h ∙ ih ((48 + n % 10) ∷ r) (omega arith) (omega arith) ∙ sym (within-high m n r h)

within_same : (k m n : ℕ) (r : List ℕ) → n < k → n < m → spell_within k n r ≡ spell_within m n r
within_same zero m n r hk hm = absurd (not-suc-le-zero hk)
within_same (suc k) zero n r hk hm = absurd (not-suc-le-zero hm)
within_same (suc k) (suc m) n r hk hm =
    within-same-by k m n r (ltb n 10) refl hk hm (λ r'. within_same k m (n / 10) r')

pub spell-low : (n : ℕ) (r : List ℕ) → n < 10 → spell_before n r ≡ (48 + n) ∷ r
unfolding spell_before
spell-low n r h = within_low n n r h

pub spell_high : (n : ℕ) (r : List ℕ) → 10 ≤ n → spell_before n r ≡ spell_before (n / 10) ((48 + n % 10) ∷ r)
unfolding spell_before
spell_high n r h =
    within-high n n r h ∙ within_same n (suc (n / 10)) (n / 10) ((48 + n % 10) ∷ r) (omega arith) (omega arith)

-- ---- induction along the digits: what holds of the numbers below ten, and of n where it holds of n / 10, holds of each number
spell-ind-by : (P : ℕ → Type 0) → ((n : ℕ) → n < 10 → P n) → ((n : ℕ) → 10 ≤ n → P (n / 10) → P n)
    → (k n : ℕ) → n < k → P n
spell-ind-by P low high zero n h = absurd (not-suc-le-zero h)
spell-ind-by P low high (suc k) n h =
    by-lt n 10 (low n) (λ q. high n q (spell-ind-by P low high k (n / 10) (omega arith)))

spell-ind : (P : ℕ → Type 0) → ((n : ℕ) → n < 10 → P n) → ((n : ℕ) → 10 ≤ n → P (n / 10) → P n) → (n : ℕ) → P n
spell-ind P low high n = spell-ind-by P low high (suc n) n (omega arith)

-- ---- the bytes behind the digits
spell-append : (n : ℕ) (r t : List ℕ) → spell_before n (r ++ t) ≡ spell_before n r ++ t
spell-append n = spell-ind (λ (m : ℕ). (r t : List ℕ) → spell_before m (r ++ t) ≡ spell_before m r ++ t)
    (λ m h r t. rw (spell-low m (r ++ t) h, spell-low m r h))
    (λ m h ih r t. rw (spell_high m (r ++ t) h, spell_high m r h) (ih ((48 + m % 10) ∷ r) t))
    n

pub spell-rest : (n : ℕ) (r : List ℕ) → spell_before n r ≡ spell n ++ r
spell-rest n r = spell-append n [] r

-- ---- the length
spell-length : (n : ℕ) (r : List ℕ) → length (spell_before n r) ≡ length (spell n) + length r
spell-length n r = rw (spell-rest n r) (length-append (spell n) r)

length-low : (n : ℕ) → n < 10 → length (spell n) ≡ 1
length-low n h = ap length (spell-low n [] h)

length_high : (n : ℕ) → 10 ≤ n → length (spell n) ≡ length (spell (n / 10)) + 1
length_high n h = ap length (spell_high n [] h) ∙ spell-length (n / 10) ((48 + n % 10) ∷ [])

-- a number below 10 ^ (k + 1) has at most k + 1 digits
pub spell-short : (k n : ℕ) → n < 10 ^ suc k → length (spell n) ≤ suc k
spell-short zero n h = omega (arith, length-low n h)
spell-short (suc k) n h =
    by-lt n 10
    (λ q. omega (arith, length-low n q))
    (λ q. omega (arith, length_high n q, spell-short k (n / 10) (omega (arith, pow-suc 10 (suc k)))))

ten-power : (k : ℕ) → 0 < 10 ^ k
ten-power zero = omega arith
ten-power (suc k) = omega (arith, pow-suc 10 k, ten-power k)

-- a number that is not below 10 ^ k has at least k + 1 digits
spell-long : (k n : ℕ) → 10 ^ k ≤ n → suc k ≤ length (spell n)
spell-long zero n h = by-lt n 10 (λ q. omega (arith, length-low n q)) (λ q. omega (arith, length_high n q))
spell-long (suc k) n h =
    let p = pow-suc 10 k in
    let q : 10 ≤ n = omega (arith, ten-power k) in
    omega (arith, length_high n q, spell-long k (n / 10) (omega arith))

-- the digits of a number below ten, of one below a hundred, and of one between two powers of ten
pub spell_one : (n : ℕ) → n < 10 → length (spell n) ≡ 1
spell_one n h = length-low n h

pub spell_two : (n : ℕ) → 10 ≤ n → n < 100 → length (spell n) ≡ 2
spell_two n h l = omega (arith, length_high n h, length-low (n / 10) (omega arith))

pub spell_counted : (k n : ℕ) → 10 ^ k ≤ n → n < 10 * 10 ^ k → length (spell n) ≡ k + 1
spell_counted k n h l = omega (arith, spell-long k n h, spell-short k n (omega (arith, pow-suc 10 k)))

-- ---- the value of a spelling
value_before : (n : ℕ) (r : List ℕ) → value_from 0 (spell_before n r) ≡ value_from n r
unfolding value_from
value_before n = spell-ind (λ (m : ℕ). (r : List ℕ) → value_from 0 (spell_before m r) ≡ value_from m r)
    (λ m h r. rw (spell-low m r h) (ap (λ (v : ℕ). value_from v r) (omega arith)))
    (λ m h ih r. rw (spell_high m r h) (ih ((48 + m % 10) ∷ r) ∙ ap (λ (v : ℕ). value_from v r) (omega arith)))
    n

-- the value of a number's spelling is the number
pub value-spell : (n : ℕ) → value (spell n) ≡ n
unfolding value_from
value-spell n = value_before n []

-- ---- a spelling is a number
digits-spell : (n : ℕ) (r : List ℕ) → all_digits (spell_before n r) ≡ all_digits r
unfolding all_digits
digits-spell n = spell-ind (λ (m : ℕ). (r : List ℕ) → all_digits (spell_before m r) ≡ all_digits r)
    (λ m h r. rw (spell-low m r h, digit-is (48 + m) (omega arith) (omega arith)))
    (λ m h ih r. rw (spell_high m r h) (ih ((48 + m % 10) ∷ r) ∙ rw (digit-is (48 + m % 10) (omega arith) (omega arith))))
    n

starts-cons : (b : ℕ) (r : List ℕ) → (b ≡ 48 → ⊥) → starts_well (b ∷ r) ≡ true
unfolding starts_well
starts-cons b [] h = refl
starts-cons b (c ∷ r) h = rw (ne_eqb b 48 h)

starts-spell : (n : ℕ) → (r : List ℕ) → 0 < n → starts_well (spell_before n r) ≡ true
starts-spell n = spell-ind (λ (m : ℕ). (r : List ℕ) → 0 < m → starts_well (spell_before m r) ≡ true)
    (λ m h r p. rw (spell-low m r h) (starts-cons (48 + m) r (omega arith)))
    (λ m h ih r p. rw (spell_high m r h) (ih ((48 + m % 10) ∷ r) (omega arith)))
    n

starts-zero : (n : ℕ) → n < 10 → starts_well (spell n) ≡ true
unfolding starts_well
starts-zero n h = rw (spell-low n [] h)

digits-none : all_digits [] ≡ true
unfolding all_digits
digits-none = refl

pub number-spell : (n : ℕ) → is_number (spell n) ≡ true
number-spell n =
    let d = digits-spell n [] ∙ digits-none in
    by-lt 0 n
    (λ h. number_is (spell n) (starts-spell n [] h) d)
    (λ h. number_is (spell n) (starts-zero n (omega arith)) d)

-- ---- a number is the spelling of its value
spell-digits : (a : ℕ) (bs r : List ℕ) → 0 < a → all_digits bs ≡ true
    → spell_before (value_from a bs) r ≡ spell_before a (bs ++ r)
unfolding all_digits value_from
spell-digits a [] r h e = refl
spell-digits a (b ∷ bs) r h e =
    let d = and_left (is_digit b) (all_digits bs) e in
    let p = digit-from b d in
    let q = digit-to b d in
    spell-digits (a * 10 + (b - 48)) bs r (omega arith) (and_right (is_digit b) (all_digits bs) e)
    ∙ spell_high (a * 10 + (b - 48)) (bs ++ r) (omega arith)
    ∙ ap (λ (m : ℕ). spell_before m ((48 + (a * 10 + (b - 48)) % 10) ∷ (bs ++ r))) (omega arith)
    ∙ ap (λ (m : ℕ). spell_before a (m ∷ (bs ++ r))) (omega arith)

-- a number is spelt as the spelling of its value
pub spell-value : (f : List ℕ) → is_number f ≡ true → spell (value f) ≡ f
unfolding is_number starts_well all_digits value_from
spell-value [] e = absurd (false≢true e)
spell-value (b ∷ []) e =
    let d = and_left (is_digit b) true e in
    let p = digit-from b d in
    let q = digit-to b d in
    spell-low (0 * 10 + (b - 48)) [] (omega arith) ∙ ap (λ (m : ℕ). m ∷ []) (omega arith)
spell-value (b ∷ c ∷ bs) e =
    let s = and_left (not (eqb b 48)) (all_digits (b ∷ c ∷ bs)) e in
    let t = and_right (not (eqb b 48)) (all_digits (b ∷ c ∷ bs)) e in
    let d = and_left (is_digit b) (all_digits (c ∷ bs)) t in
    let p = digit-from b d in
    let q = digit-to b d in
    let z = eqb-false b 48 (not-true (eqb b 48) s) in
    spell-digits (0 * 10 + (b - 48)) (c ∷ bs) [] (omega arith) (and_right (is_digit b) (all_digits (c ∷ bs)) t)
    ∙ spell-low (0 * 10 + (b - 48)) ((c ∷ bs) ++ []) (omega arith)
    ∙ ap (λ (l : List ℕ). (48 + (0 * 10 + (b - 48))) ∷ l) (append-nil (c ∷ bs))
    ∙ ap (λ (m : ℕ). m ∷ c ∷ bs) (omega arith)

-- ---- a number holds no byte that is no digit
digits-without : (b : ℕ) (p : List ℕ) → is_digit b ≡ false → all_digits p ≡ true → without b p ≡ true
unfolding without all_digits
digits-without b [] h e = refl
digits-without b (x ∷ p) h e =
    let d = and_left (is_digit x) (all_digits p) e in
    let n : x ≡ b → ⊥ = λ q. false≢true (sym h ∙ ap is_digit (sym q) ∙ d) in
    rw (ne_eqb x b n) (digits-without b p h (and_right (is_digit x) (all_digits p) e))

pub number-without : (b : ℕ) (p : List ℕ) → is_digit b ≡ false → is_number p ≡ true → without b p ≡ true
number-without b p h e = digits-without b p h (number_digits p e)

pub spell-without : (b n : ℕ) → is_digit b ≡ false → without b (spell n) ≡ true
spell-without b n h = number-without b (spell n) h (number-spell n)

-- ---- a field is the spelling of n, as it is read below n + 1
module _ (n : ℕ) (f : List ℕ) where
  not-spelling : (value f ≡ n → ⊥) → same f (spell n) ≡ false
  not-spelling h = same_false f (spell n) (λ e. h (ap (value_from 0) e ∙ value-spell n))

  own-not : number_of (n + 1) f ≡ Err NotNumber → same f (spell n) ≡ false
  own-not q =
      same_false f (spell n) (λ e. false≢true (sym (not-number (n + 1) f q) ∙ ap is_number e ∙ number-spell n))

  own-over : number_of (n + 1) f ≡ Err Over → same f (spell n) ≡ false
  own-over q = not-spelling (λ e. omega (arith, (over-number (n + 1) f q).1))

  own_value : (v : ℕ) → number_of (n + 1) f ≡ Ok v → eqb v n ≡ same f (spell n)
  own_value v q =
      let t = value-number (n + 1) f v q in
      by-eq v n
      (λ e. let g : spell n ≡ f = ap spell (sym (t.1 ∙ e)) ∙ spell-value f t.0 in
      rw (eq-eqb v n e, g) (sym (same_refl f)))
      (λ e. rw (ne_eqb v n e) (sym (not-spelling (λ k. e (sym t.1 ∙ k)))))

  -- what is read is the number itself
  pub own_is : (E : NumberFault → NumberFault → Bool) (q : Result ℕ NumberFault) → q ≡ number_of (n + 1) f → result_eq eqb E q (Ok n) ≡ same f (spell n)
  own_is E (Ok v) q = own_value v (sym q)
  own_is E (Err NotNumber) q = sym (own-not (sym q))
  own_is E (Err Over) q = sym (own-over (sym q))

-- ---- a loop that writes the digits from the last one on
pub last-spell : (n : ℕ) (r : List ℕ) → last_digits (length (spell n)) n r ≡ spell_before n r
unfolding last_digits
last-spell n = spell-ind (λ (m : ℕ). (r : List ℕ) → last_digits (length (spell m)) m r ≡ spell_before m r)
    (λ m h r. rw (length-low m h, spell-low m r h) (ap (λ (d : ℕ). (48 + d) ∷ r) (omega arith)))
    (λ m h ih r. rw (length_high m h, add-one, spell_high m r h) (ih ((48 + m % 10) ∷ r)))
    n

drop-set : (l : List ℕ) (j v : ℕ) → j < length l → drop j (set l j v) ≡ v ∷ drop (suc j) l
drop-set [] j v h = absurd (not-suc-le-zero h)
drop-set (x ∷ l) zero v h = refl
drop-set (x ∷ l) (suc j) v h = drop-set l j v (le_of_suc-le-suc h)

pub last_turn : (l : List ℕ) (i n : ℕ) → 0 < i → i ≤ length l
    → last_digits i n (drop i l) ≡ last_digits (i - 1) (n / 10) (drop (i - 1) (set l (i - 1) (48 + n % 10)))
unfolding last_digits
last_turn l zero n p h = absurd (not-suc-le-zero p)
last_turn l (suc j) n p h = rw (sub-one, drop-set l j (48 + n % 10) h)

pub last_none : (n : ℕ) (r : List ℕ) → last_digits 0 n r ≡ r
unfolding last_digits
last_none n r = refl
