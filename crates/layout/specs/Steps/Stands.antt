-- What stands at a place of a text. The functions go from left to right over what is left of a text (`Leading`); these say the same by
-- places of the whole.
use Rattle.std.specs.Prelude.{ℕ, ◌+◌, ◌≤◌, ◌≡◌, Bool, cond, List, [], ◌∷◌, ◌++◌, length, take, drop, Option, Some, None, Result, Ok, Err}
use Rattle.layout.specs.Word.{same}
use Rattle.layout.specs.Number.{number_of}
use Rattle.layout.specs.Steps.Number.{digits}
use Rattle.layout.specs.declared.number.NumberFault.{NumberFault}

-- The bytes f stand in s from the place `from` up to the place `end`.
pub record Stands (f : List ℕ) (from end : ℕ) (s : List ℕ) : Type 0 where
  pub inside : end ≤ length s
  pub whole : drop from s ≡ f ++ drop end s

-- A number that stands at a place, and where it ends.
pub record NumberAt : Type 0 where
  pub value : ℕ
  pub end : ℕ

-- Whether a word stands in s at a place.
unfoldable pub stands_at : List ℕ → ℕ → List ℕ → Bool
stands_at word from s = same (take (length word) (drop from s)) word

-- A field of n bytes at a place, read as a number below a bound: its value and where it ends; nothing where it is no such number.
abbrev pub told_at : ℕ → ℕ → Result ℕ NumberFault → Option NumberAt
told_at from n (Ok v) = Some (record { value = v; end = from + n })
told_at from n (Err f) = None

-- The number below a bound that the digits of s from a place on are.
unfoldable pub number_at : ℕ → ℕ → List ℕ → Option NumberAt
number_at bound from s = told_at from (length (digits (drop from s))) (number_of bound (digits (drop from s)))

-- A number that stands in s, with a space behind it, and the place behind the space.
unfoldable pub spaced : List ℕ → Option NumberAt → Option NumberAt
spaced s None = None
spaced s (Some n) = cond (stands_at (32 ∷ []) n.end s) (Some (record { value = n.value; end = n.end + 1 })) None

-- The number below a bound that stands at a place of s with a space behind it, and the place behind the space.
unfoldable pub spaced_number : ℕ → ℕ → List ℕ → Option NumberAt
spaced_number bound from s = spaced s (number_at bound from s)
