-- A text written into the first bytes of a buffer.
use Rattle.std.specs.Prelude.{ℕ, cond, List, ◌++◌, length, drop, leb, Option, Some, None}

-- The buffer with the text in its first places and the rest unchanged.
unfoldable pub fill : List ℕ → List ℕ → List ℕ
fill text buffer = text ++ drop (length text) buffer

-- What a writer answers: the length of the text, or nothing where the buffer is too short.
unfoldable pub written : List ℕ → List ℕ → Option ℕ
written text buffer = cond (leb (length text) (length buffer)) (Some (length text)) None

-- What the buffer then holds: a buffer that is too short is unchanged.
unfoldable pub after : List ℕ → List ℕ → List ℕ
after text buffer = cond (leb (length text) (length buffer)) (fill text buffer) buffer
