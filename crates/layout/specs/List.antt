-- A list of numbers: numbers joined by commas, `-` for the empty list.
use Rattle.std.specs.Prelude.{ℕ, zero, suc, Bool, true, cond, ◌&&◌, List, [], ◌∷◌, map, length, leb, ltb, Result, Ok, Err}
use Rattle.layout.specs.Split.{split, join}
use Rattle.layout.specs.Word.{same, dash}
use Rattle.layout.specs.Number.{is_number, value, spell}
use Rattle.layout.specs.declared.list.ListFault.{ListFault}
use Rattle.layout.specs.declared.list.ListFault.TheVariants.{NotList, Over, Many}

-- ---- reading
-- The items of a list, as they are spelt.
unfoldable pub items_of : List ℕ → List (List ℕ)
items_of f = cond (same f dash) [] (split 44 f)

unfoldable pub all_numbers : List (List ℕ) → Bool
all_numbers [] = true
all_numbers (p ∷ ps) = is_number p && all_numbers ps

unfoldable pub all_below : ℕ → List (List ℕ) → Bool
all_below bound [] = true
all_below bound (p ∷ ps) = ltb (value p) bound && all_below bound ps

-- What items are as a list of at most max numbers below a bound: a misspelt item counts first, then one that is not
-- below the bound, then their count.
unfoldable pub judged : ℕ → ℕ → List (List ℕ) → Result ℕ ListFault
judged bound max ps =
    cond (all_numbers ps) (cond (all_below bound ps) (cond (leb (length ps) max) (Ok (length ps)) (Err Many)) (Err Over)) (Err NotList)

-- What a field is as such a list.
unfoldable pub list_of : ℕ → ℕ → List ℕ → Result ℕ ListFault
list_of bound max f = judged bound max (items_of f)

-- The numbers of a field that is a list.
unfoldable pub numbers_of : List ℕ → List ℕ
numbers_of f = map value (items_of f)

-- The numbers before the first item that is misspelt or not below the bound, and at most max of them: all numbers of a
-- field that is such a list.
unfoldable pub leading : ℕ → ℕ → List (List ℕ) → List ℕ
leading bound zero ps = []
leading bound (suc max) [] = []
leading bound (suc max) (p ∷ ps) = cond (is_number p && ltb (value p) bound) (value p ∷ leading bound max ps) []

-- ---- writing
-- The text of a list.
unfoldable pub list_text : List ℕ → List ℕ
list_text [] = dash
list_text (x ∷ xs) = join 44 (map spell (x ∷ xs))
