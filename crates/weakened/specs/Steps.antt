-- What the makers of a weakened certificate's lists speak of.
use Rattle.std.specs.Prelude.{ℕ, List, map, length, get_or, eqb}
use Rattle.history.specs.Record.{pad}
use Rattle.certificate.specs.Record.{rows_of}
use Rattle.criteria.specs.Tests.{highest}
use Rattle.weakened.specs.declared.views.ViewRows.{ViewRows}

-- The lengths of views in an array.
unfoldable pub lengths_of : List (List ℕ) → List ℕ
lengths_of views = pad 64 0 (map length views)

-- The rows of views, and their lengths.
abbrev pub view_rows_of : List (List ℕ) → ViewRows
view_rows_of views = record { rows = rows_of views; lengths = lengths_of views }

-- The last of the first n events that is of process p.
abbrev pub last_in : ℕ → List ℕ → ℕ → ℕ
last_in n processes p = highest n (λ e. eqb (get_or processes e 0) p)
