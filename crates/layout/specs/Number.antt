-- A number: digits with no leading zero, `0` itself allowed (document 01, "History text").
use Rattle.std.specs.Prelude.{ℕ, zero, suc, ◌+◌, ◌-◌, ◌*◌, ◌/◌, ◌%◌, Bool, true, false, cond, not, ◌&&◌, List, [], ◌∷◌, eqb, leb, ltb, Result, Ok, Err}
use Rattle.layout.specs.declared.number.NumberFault.{NumberFault}
use Rattle.layout.specs.declared.number.NumberFault.TheVariants.{NotNumber, Over}

-- The bytes `0` to `9`.
unfoldable pub is_digit : ℕ → Bool
is_digit b = leb 48 b && leb b 57

unfoldable pub all_digits : List ℕ → Bool
all_digits [] = true
all_digits (b ∷ bs) = is_digit b && all_digits bs

-- There is a first byte, and it is not `0` unless it is the only one.
unfoldable pub starts_well : List ℕ → Bool
starts_well [] = false
starts_well (b ∷ []) = true
starts_well (b ∷ c ∷ bs) = not (eqb b 48)

unfoldable pub is_number : List ℕ → Bool
is_number f = starts_well f && all_digits f

-- The value of the digits that follow a number whose value is v.
unfoldable pub value_from : ℕ → List ℕ → ℕ
value_from v [] = v
value_from v (b ∷ bs) = value_from (v * 10 + (b - 48)) bs

abbrev pub value : List ℕ → ℕ
value f = value_from 0 f

-- A value below a bound, or over the limit that the bound sets.
unfoldable pub below : ℕ → ℕ → Result ℕ NumberFault
below bound n = cond (ltb n bound) (Ok n) (Err Over)

-- What a field is as a number below a bound.
unfoldable pub number_of : ℕ → List ℕ → Result ℕ NumberFault
number_of bound f = cond (is_number f) (below bound (value f)) (Err NotNumber)

-- The digits of n before the bytes r. The first argument is any number above n: it only bounds the recursion.
unfoldable pub spell_within : ℕ → ℕ → List ℕ → List ℕ
spell_within zero n r = r
spell_within (suc k) n r = elim (ltb n 10) [ true ↦ (48 + n) ∷ r | false ↦ spell_within k (n / 10) ((48 + n % 10) ∷ r) ]

-- The decimal spelling of n before the bytes r.
unfoldable pub spell_before : ℕ → List ℕ → List ℕ
spell_before n r = spell_within (suc n) n r

-- The decimal spelling of n.
abbrev pub spell : ℕ → List ℕ
spell n = spell_before n []
