-- The row of the first n events: it is that of the first i so far. Assumes nothing.
use Rattle.std.proofs.Common.{◌≡◌, ℕ, ltb}
use Rattle.orders.specs.Rows.{in_row}
use Rattle.orders.proofs.searches.all_row.Given as goal

abbrev pub invariant-loop-i : goal.invariant-loop-i
invariant-loop-i l = (e : ℕ) → in_row l.row e ≡ ltb e l.i
