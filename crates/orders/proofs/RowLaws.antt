-- The tests that the searches over rows make. Assumes nothing.
use mathlib.Core.Path.{◌≡◌, refl}
use mathlib.Core.Bool.{Bool, not, ◌&&◌}
use mathlib.Core.List.{List}
use Prim.Native.Nat.{ℕ}
use lib.ListN.{get_or}
use Rattle.criteria.specs.Tests.{any}
use Rattle.criteria.specs.Check.{lacks_past}
use Rattle.orders.specs.Rows.{in_row, in_rows}

-- g is in row a and not in row b; it is in both; the row of e lacks something that it must have
abbrev pub apart : ℕ → ℕ → ℕ → Bool
apart a b g = in_row a g && not (in_row b g)

abbrev pub both : ℕ → ℕ → ℕ → Bool
both a b g = in_row a g && in_row b g

abbrev pub lacks : List ℕ → List ℕ → ℕ → Bool
lacks rows must e = any 64 (apart (get_or must e 0) (get_or rows e 0))

-- f is before e, and some event is before f and not before e
abbrev pub lacking : List ℕ → ℕ → ℕ → Bool
lacking rows e f = in_rows rows f e && any 64 (apart (get_or rows f 0) (get_or rows e 0))

pub lacking-past : (rows : List ℕ) (e : ℕ) → any 64 (lacking rows e) ≡ lacks_past 64 (in_rows rows) e
unfolding lacks_past
lacking-past rows e = refl
