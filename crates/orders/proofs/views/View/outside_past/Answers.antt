-- An event outside the past before an own event: the entries so far are marked, and none of them is such an own event. Assumes nothing.
use Rattle.std.proofs.Common.{ℕ, Bool, ◌∙◌, sym, eqb, get_or, arith, below_none, below_more}
use borrow.Author.Tests.{eq-eqb, eqb-true}
use Rattle.layout.proofs.Cases.{true-and}
use Rattle.criteria.proofs.Check.{false-and}
use Rattle.orders.specs.Rows.{in_rows}
use Rattle.orders.proofs.BitLaws.{none_in}
use Rattle.orders.proofs.ViewLaws.{mark-turn}
use Rattle.orders.proofs.PastLaws.{outside-turn, outside_found, outside_nowhere}
use Rattle.orders.proofs.views.View.outside_past.Goals as goal
use Rattle.orders.proofs.views.View.outside_past.Goals.{else-processes-x-via-then-processes-x+else-escapes, else-processes-x-via-else-processes-x}

pub loop-x-init : goal.loop-x-init
loop-x-init c = (none_in, below_none _)

pub returns-then-escapes : goal.returns-then-escapes
returns-then-escapes c =
    let own : ℕ → Bool = λ e. eqb (get_or c.args.processes.now e 0) c.args.p in
    sym (outside_found (in_rows c.args.rows.now) own c.args.self.now.events.now c.loop-x.x-index c.loop-x-test.true
    (sym (outside-turn c.args.rows.now own c.args.self.now.events.now c.loop-x.x-index c.loop-x.before _ c.loop-x-test.true c.from-x.ensures c.args.self.now.inside c.loop-x.invariant.0)
    ∙ true-and (eq-eqb _ _ c.if-processes-x.true) (sym c.escapes.ensures ∙ c.if-escapes.true)))

pub loop-x-preserved : goal.loop-x-preserved
loop-x-preserved c =
    let own : ℕ → Bool = λ e. eqb (get_or c.args.processes.now e 0) c.args.p in (
      mark-turn c.args.self.now.events.now c.loop-x.x-index c.loop-x-test.true _ c.from-x.ensures c.loop-x.before _ c.with_event-before.ensures c.loop-x.invariant.0,
      below_more _ _ c.loop-x.invariant.1
          (sym (outside-turn c.args.rows.now own c.args.self.now.events.now c.loop-x.x-index c.loop-x.before _ c.loop-x-test.true c.from-x.ensures c.args.self.now.inside c.loop-x.invariant.0)
          ∙ elim c.else-processes-x.branch [
            | else-processes-x-via-then-processes-x+else-escapes w ↦ false-and _ _ (λ t. sym w.escapes.ensures ∙ w.if-escapes.false)
            | else-processes-x-via-else-processes-x w ↦ false-and _ _ (λ t. absurd (w.if-processes-x.false (eqb-true _ _ t)))
          ]),
    )

pub returns : goal.returns
returns c =
    let own : ℕ → Bool = λ e. eqb (get_or c.args.processes.now e 0) c.args.p in
    sym (outside_nowhere (in_rows c.args.rows.now) own c.args.self.now.events.now (λ k l. c.loop-x.invariant.1 k (omega arith)))
