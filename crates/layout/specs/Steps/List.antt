-- Lists an item at a time.
use Rattle.std.specs.Prelude.{ℕ, ◌+◌, cond, List, [], ◌∷◌, ◌++◌, length, set, ltb, Result, Ok, Err}
use Rattle.layout.specs.Number.{number_of, spell}
use Rattle.layout.specs.declared.number.NumberFault.{NumberFault}
use Rattle.layout.specs.declared.number.NumberFault.TheVariants as number
use Rattle.layout.specs.declared.list.ListFault.{ListFault}
use Rattle.layout.specs.declared.list.ListFault.TheVariants.{NotList, Over, Many}

-- The answer so far, after one item more that was read.
unfoldable pub joined : ℕ → Result ℕ ListFault → Result ℕ NumberFault → Result ℕ ListFault
joined max (Err NotList) q = Err NotList
joined max (Err Over) (Err number.NotNumber) = Err NotList
joined max (Err Over) (Err number.Over) = Err Over
joined max (Err Over) (Ok v) = Err Over
joined max (Err Many) (Err number.NotNumber) = Err NotList
joined max (Err Many) (Err number.Over) = Err Over
joined max (Err Many) (Ok v) = Err Many
joined max (Ok n) (Err number.NotNumber) = Err NotList
joined max (Ok n) (Err number.Over) = Err Over
joined max (Ok n) (Ok v) = cond (ltb n max) (Ok (n + 1)) (Err Many)

-- The places after one item more that was read: a number is kept where no item before it was refused and there is room.
unfoldable pub held : Result ℕ ListFault → Result ℕ NumberFault → List ℕ → List ℕ
held (Err f) q xs = xs
held (Ok n) (Err f) xs = xs
held (Ok n) (Ok v) xs = cond (ltb n (length xs)) (set xs n v) xs

unfoldable pub pushed : ℕ → ℕ → Result ℕ ListFault → List ℕ → Result ℕ ListFault
pushed bound max r p = joined max r (number_of bound p)

unfoldable pub kept : ℕ → Result ℕ ListFault → List ℕ → List ℕ → List ℕ
kept bound r p xs = held r (number_of bound p) xs

-- The answer for the items that are left, from the answer so far.
unfoldable pub answer_from : ℕ → ℕ → Result ℕ ListFault → List (List ℕ) → Result ℕ ListFault
answer_from bound max r [] = r
answer_from bound max r (p ∷ ps) = answer_from bound max (pushed bound max r p) ps

-- The places after the items that are left, from the answer so far.
unfoldable pub places_from : ℕ → ℕ → Result ℕ ListFault → List (List ℕ) → List ℕ → List ℕ
places_from bound max r [] xs = xs
places_from bound max r (p ∷ ps) xs = places_from bound max (pushed bound max r p) ps (kept bound r p xs)

-- The text of the items after the first, each with its comma.
unfoldable pub tail_text : List ℕ → List ℕ
tail_text [] = []
tail_text (x ∷ xs) = 44 ∷ (spell x ++ tail_text xs)
