-- A view and its order: no entry so far has one from it on before it, and the entries that are left are marked. Assumes nothing.
use Rattle.std.proofs.Common.{◌∙◌, sym}
use Rattle.orders.proofs.ViewLaws.{walk-turn-stops, walk-turn-on, walk-over, walk_start}
use Rattle.orders.proofs.views.View.against.Goals as goal

pub loop-x-init : goal.loop-x-init
loop-x-init c = walk_start c.args.rows.now c.args.self.now.events.now _ c.args.self.now.inside c.requires c.marks-later.ensures

pub returns-then-meets : goal.returns-then-meets
returns-then-meets c =
    sym (walk-turn-stops c.args.self.now.events.now c.loop-x.x-index c.loop-x-test.true _ c.from-x.ensures c.args.rows.now c.loop-x.later c.loop-x.invariant (sym c.meets.ensures ∙ c.if-meets.true))

pub loop-x-preserved : goal.loop-x-preserved
loop-x-preserved c =
    walk-turn-on c.args.self.now.events.now c.loop-x.x-index c.loop-x-test.true _ c.from-x.ensures c.args.rows.now c.loop-x.later c.loop-x.invariant (sym c.meets.ensures ∙ c.if-meets.false) _ c.without_event-later.ensures

pub returns : goal.returns
returns c = sym (walk-over c.args.rows.now c.loop-x.later c.args.self.now.events.now c.loop-x.x-index c.loop-x-test.false c.loop-x.invariant)
