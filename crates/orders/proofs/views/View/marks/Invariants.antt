-- The row of a view's entries: the first of them are marked, and nothing else is. Assumes nothing.
use Rattle.std.proofs.Common.{◌≡◌, ℕ, take}
use Rattle.criteria.specs.Tests.{mem}
use Rattle.orders.specs.Rows.{in_row}
use Rattle.orders.proofs.views.View.marks.Given as goal

abbrev pub invariant-loop-x : goal.invariant-loop-x
invariant-loop-x l = (e : ℕ) → in_row l.row e ≡ mem e (take l.x-index l.self.events.now)
