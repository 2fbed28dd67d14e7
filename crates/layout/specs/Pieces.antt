-- Pieces of a text, one behind the other.
use Rattle.std.specs.Prelude.{ℕ, zero, suc, ◌+◌, List, [], ◌++◌}

-- So many pieces from the place k on.
unfoldable pub pieces_from : (ℕ → List ℕ) → ℕ → ℕ → List ℕ
pieces_from piece k zero = []
pieces_from piece k (suc n) = piece k ++ pieces_from piece (k + 1) n
