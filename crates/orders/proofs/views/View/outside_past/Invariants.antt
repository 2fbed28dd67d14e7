-- An event outside the past before an own event: the entries so far are marked, and none of them is such an own event. Assumes nothing.
use Rattle.std.proofs.Common.{◌≡◌, ℕ, ◌<◌, false, eqb, get_or, take}
use Rattle.criteria.specs.Tests.{mem}
use Rattle.orders.specs.Rows.{in_row, in_rows}
use Rattle.orders.proofs.PastLaws.{outside_at}
use Rattle.orders.proofs.views.View.outside_past.Given as goal

abbrev pub invariant-loop-x : goal.invariant-loop-x
invariant-loop-x l =
    ((e : ℕ) → in_row l.before e ≡ mem e (take l.x-index l.self.events.now))
    × ((k : ℕ) → k < l.x-index → outside_at (in_rows l.rows) (λ e. eqb (get_or l.processes e 0) l.p) l.self.events.now k ≡ false)
