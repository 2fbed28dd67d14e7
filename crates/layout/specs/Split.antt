-- A list of bytes cut at a byte: a text into lines at 10, a line into fields at 32, a list into items at 44.
use Rattle.std.specs.Prelude.{ℕ, zero, suc, ◌+◌, cond, List, [], ◌∷◌, ◌++◌, length, drop, eqb, ltb}

-- The place of the first b, or the length where there is none.
unfoldable pub find : ℕ → List ℕ → ℕ
find b [] = 0
find b (x ∷ xs) = cond (eqb x b) 0 (suc (find b xs))

-- The parts with x before the first of them.
unfoldable pub on_first : ℕ → List (List ℕ) → List (List ℕ)
on_first x [] = []
on_first x (p ∷ ps) = (x ∷ p) ∷ ps

-- The parts between the bytes b. There is one part more than there are bytes b.
unfoldable pub split : ℕ → List ℕ → List (List ℕ)
split b [] = [] ∷ []
split b (x ∷ xs) = cond (eqb x b) ([] ∷ split b xs) (on_first x (split b xs))

-- The parts with one byte b between each two.
unfoldable pub join : ℕ → List (List ℕ) → List ℕ
join b [] = []
join b (p ∷ []) = p
join b (p ∷ q ∷ ps) = p ++ b ∷ join b (q ∷ ps)

-- Where the part with the number k begins: behind the byte b that ends the part before it; at the end where there are not so
-- many parts.
unfoldable pub part_start : ℕ → ℕ → List ℕ → ℕ
part_start b zero s = 0
part_start b (suc k) s =
    cond (ltb (find b s) (length s)) (find b s + 1 + part_start b k (drop (find b s + 1) s)) (length s)
