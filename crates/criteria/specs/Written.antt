-- What is written to an object: the law that a window answers the last values written to it speaks of this (document 02, T-04).
use Rattle.std.specs.Prelude.{cond, ◌&&◌, List, [], ◌∷◌, ◌++◌, ℕ, eqb}
use Rattle.history.specs.Readable.{is_write}
use Rattle.criteria.specs.History.{History, event}

-- The value that event e writes to object o, as a list of one, or none where it does not.
abbrev pub written_to : History → ℕ → ℕ → List ℕ
written_to h o e = cond (eqb (event h e).object o && is_write (event h e).op) ((event h e).value ∷ []) []

-- The values that a list of events writes to object o, in that order.
abbrev pub all_written_to : History → ℕ → List ℕ → List ℕ
all_written_to h o [] = []
all_written_to h o (e ∷ view) = written_to h o e ++ all_written_to h o view
