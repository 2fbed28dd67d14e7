-- An event that is asked is wrong where its answer is not the given one; one that is not asked is right or not visible.
use native.Mathlib.Omega.{arith}
use mathlib.Core.Path.{sym, ◌∙◌}
use Rattle.replays.proofs.ReplayLaws.{asked-right, asked-wrong, unasked-changes, unasked-still, all-passed}
use Rattle.replays.proofs.replay.replay.Goals as goal
use Rattle.replays.proofs.replay.replay.Goals.{then-asks+else-not-fits_given, else-asks+then-changes, else-asks+else-changes}

pub returns-then-not-fits_given : goal.returns-then-not-fits_given
returns-then-not-fits_given c =
    asked-wrong c.requires c.loop-number.invariant c.loop-number-test.true c.from-at.ensures c.from-o.ensures _ c.step-step.result.answer (sym c.asks.ensures ∙ c.if-asks.true) c.step-step.ensures.1 (sym c.if-not-fits_given.true ∙ c.fits_given.ensures)

pub loop-number-preserved : goal.loop-number-preserved
loop-number-preserved c =
    let p = c.loop-number.invariant in
    let l = c.loop-number-test.true in
    elim c.if-asks.branch [
      | then-asks+else-not-fits_given w ↦
          rw w.states-is (asked-right c.requires p l c.from-at.ensures c.from-o.ensures _ w.step-step.result.answer w.step-step.result.state (sym c.asks.ensures ∙ w.if-asks.true) w.step-step.ensures.1 (sym w.if-not-fits_given.false ∙ w.fits_given.ensures) w.step-step.ensures.0)
      | else-asks+then-changes w ↦ rw w.states-is (unasked-changes c.requires p l c.from-at.ensures c.from-o.ensures _ w.changed.result (sym c.asks.ensures ∙ w.if-asks.false) w.changed.ensures)
      | else-asks+else-changes w ↦ rw w.states-is (unasked-still c.requires p l c.from-at.ensures c.from-o.ensures (sym c.asks.ensures ∙ w.if-asks.false) (sym w.changes.ensures ∙ w.if-changes.false))
    ]

pub returns : goal.returns
returns c = all-passed c.requires (omega arith) c.loop-number.invariant
