-- The test of every row, with its length, as the library's `list_all`. Assumes nothing.
use Prim.Native.Nat.{ℕ}
use native.Mathlib.Omega.{arith}
use mathlib.Core.Path.{◌≡◌, refl, ap}
use mathlib.Core.Bool.{Bool, ◌&&◌}
use mathlib.Core.List.{List, [], ◌∷◌}
use lib.ListN.{length}
use Rattle.std.specs.List.{list_all, zip}
use Rattle.certificate.specs.Readable.{good_row, good_rows}

pub rows_are : (count : ℕ) (ns : List ℕ) (rows : List (List ℕ)) → length ns ≡ length rows
    → good_rows count ns rows ≡ list_all (λ (p : ℕ × List ℕ). good_row count p.0 p.1) (zip ns rows)
unfolding good_rows
rows_are count [] [] h = refl
rows_are count [] (row ∷ rows) h = absurd (omega arith)
rows_are count (n ∷ ns) [] h = absurd (omega arith)
rows_are count (n ∷ ns) (row ∷ rows) h = ap (λ (b : Bool). good_row count n row && b) (rows_are count ns rows (omega arith))
