-- The row of a view's entries: the first of them are marked, and nothing else is. Assumes nothing.
use Rattle.orders.proofs.BitLaws.{none_in}
use Rattle.orders.proofs.ViewLaws.{mark-turn}
use Rattle.orders.proofs.views.View.marks.Goals as goal

pub loop-x-init : goal.loop-x-init
loop-x-init c = none_in

pub loop-x-preserved : goal.loop-x-preserved
loop-x-preserved c =
    mark-turn c.args.self.now.events.now c.loop-x.x-index c.loop-x-test.true _ c.from.ensures c.loop-x.row _ c.with_event-row.ensures c.loop-x.invariant
