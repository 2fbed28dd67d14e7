-- A text read, and written back into a lent buffer: the fault of its reading; else 18 where the buffer has fewer bytes than the text;
-- else 0, with the same bytes first in the buffer, the rest unchanged, and their number. On a refusal no byte changes and the length is 0.
use Rattle.std.specs.Prelude.{ℕ, cond, List, length, eqb, leb}
use Rattle.layout.specs.Fill.{fill}

unfoldable pub rewritten : ℕ → List ℕ → List ℕ → ℕ
rewritten fault text buffer = cond (eqb fault 0) (cond (leb (length text) (length buffer)) 0 18) fault

unfoldable pub rewritten_bytes : ℕ → List ℕ → List ℕ → List ℕ
rewritten_bytes fault text buffer = cond (eqb (rewritten fault text buffer) 0) (fill text buffer) buffer

unfoldable pub rewritten_length : ℕ → List ℕ → List ℕ → ℕ
rewritten_length fault text buffer = cond (eqb (rewritten fault text buffer) 0) (length text) 0
