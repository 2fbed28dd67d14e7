-- A view and its set: the whole is judged as the entries that are left are, against what is not marked off. Assumes nothing.
use Rattle.std.proofs.Common.{◌∙◌, sym, arith}
use Rattle.orders.proofs.ViewLaws.{set-turn-stops, set-turn-on, set-over}
use Rattle.orders.proofs.views.View.not_its_set.Goals as goal

pub returns-then-not-in_row : goal.returns-then-not-in_row
returns-then-not-in_row c =
    let number = c.args.self.now.inside c.loop-x.x-index c.loop-x-test.true in
    sym (c.loop-x.invariant ∙ set-turn-stops c.args.self.now.events.now c.loop-x.x-index c.loop-x-test.true _ c.from-x.ensures c.loop-x.left (omega (arith, number, c.from-x.ensures)) (sym c.in_row.ensures ∙ c.if-not-in_row.true))

pub loop-x-preserved : goal.loop-x-preserved
loop-x-preserved c =
    c.loop-x.invariant
    ∙ set-turn-on c.args.self.now.events.now c.loop-x.x-index c.loop-x-test.true _ c.from-x.ensures c.loop-x.left _ (sym c.in_row.ensures ∙ c.if-not-in_row.false) c.without_event-left.ensures

pub returns : goal.returns
returns c = c.holds_some.ensures ∙ sym (c.loop-x.invariant ∙ set-over c.loop-x.left c.args.self.now.events.now c.loop-x.x-index c.loop-x-test.false)
