-- Event e is wrong where its answer is not the given one; another event's answer is not visible.
use native.Mathlib.Omega.{arith}
use mathlib.Core.Path.{sym, ◌∙◌}
use borrow.Author.Tests.{eqb-true, eqb-false}
use Rattle.replayed_views.proofs.ObjectLaws.{its-wrong, its-right, passes, all-passed}
use Rattle.replayed_views.proofs.object.replay_object.Goals as goal
use Rattle.replayed_views.proofs.object.replay_object.Goals.{then-eq+else-not-fits_given, else-eq}

pub returns-then-not-fits_given : goal.returns-then-not-fits_given
returns-then-not-fits_given c =
    its-wrong c.requires c.loop-number.invariant c.loop-number-test.true c.from-at.ensures c.step-step.result.answer (eqb-true _ _ (sym c.if-eq.ensures)) c.step-step.ensures.1
    (sym c.if-not-fits_given.true ∙ c.fits_given.ensures)

pub loop-number-preserved : goal.loop-number-preserved
loop-number-preserved c =
    let p = c.loop-number.invariant in
    let l = c.loop-number-test.true in
    elim c.if-eq.branch [
      | then-eq+else-not-fits_given w ↦
          rw w.state-is (its-right c.requires p l c.from-at.ensures w.step-step.result.answer w.step-step.result.state (eqb-true _ _ (sym w.if-eq.ensures)) w.step-step.ensures.1
          (sym w.if-not-fits_given.false ∙ w.fits_given.ensures) w.step-step.ensures.0)
      | else-eq w ↦ rw w.state-is (passes c.requires p l c.from-at.ensures w.changed-state.result (eqb-false _ _ (sym w.if-eq.ensures)) w.changed-state.ensures)
    ]

pub returns : goal.returns
returns c = all-passed c.requires (omega arith) c.loop-number.invariant
