-- Fields in a line.
use Rattle.std.specs.Prelude.{ℕ, ◌+◌, cond, List, [], ◌∷◌, ◌++◌, length, get_or, eqb}

-- Fields with a space behind each but the last, and a line feed behind that.
unfoldable pub pieces_text : List (List ℕ) → List ℕ
pieces_text [] = []
pieces_text (f ∷ []) = f ++ 10 ∷ []
pieces_text (f ∷ g ∷ fs) = f ++ 32 ∷ pieces_text (g ∷ fs)

-- The field i and the byte behind it.
abbrev pub field_piece : List (List ℕ) → ℕ → List ℕ
field_piece fields i = get_or fields i [] ++ cond (eqb (i + 1) (length fields)) 10 32 ∷ []
