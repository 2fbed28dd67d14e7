-- `process_numbers` meets its contract: the numbers so far are the processes before p that have events. Assumes nothing.
use mathlib.Core.Path.{refl, sym, ◌∙◌}
use Rattle.certificate.proofs.NumberingLaws.{gathered_none, gathered-room, gathered-in, gathered-out, gathered-all}
use borrow.Author.Rules.{rules}
use Rattle.certificate.proofs.numbers.process_numbers.Goals as goal
use Rattle.certificate.proofs.numbers.process_numbers.Goals.{then-has_events, else-has_events}

pub loop-p-init : goal.loop-p-init
loop-p-init c = gathered_none _ _ c.no_numbers-numbers.ensures

pub push-requires : goal.push-requires
push-requires c = gathered-room c.loop-p.invariant (search rules)

pub loop-p-preserved : goal.loop-p-preserved
loop-p-preserved c =
    elim c.if-has_events.branch [
      | then-has_events w ↦
          rw w.numbers-is (gathered-in c.loop-p.invariant (search rules) _ _ refl (sym c.has_events.ensures ∙ w.if-has_events.true) w.push.ensures)
      | else-has_events w ↦
          rw w.numbers-is (gathered-out c.loop-p.invariant (search rules) (sym c.has_events.ensures ∙ w.if-has_events.false))
    ]

pub returns : goal.returns
returns c = gathered-all c.loop-p.invariant (search rules)
