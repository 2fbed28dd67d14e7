-- A view and its order: no entry so far has one from it on before it, and the entries that are left are marked. Assumes nothing.
use Rattle.std.proofs.Common.{drop}
use Rattle.orders.proofs.ViewLaws.{Walk}
use Rattle.orders.proofs.views.View.against.Given as goal

abbrev pub invariant-loop-x : goal.invariant-loop-x
invariant-loop-x l = Walk l.rows l.self.events.now (drop l.x-index l.self.events.now) l.later
