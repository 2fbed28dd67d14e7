-- `processes_of` meets its contract. Assumes nothing.
use Rattle.std.proofs.Common.{rules, arith, ◌<◌, ◌≡◌, ℕ, ap, length, get_or, length-set, ◌∙◌}
use Rattle.history.specs.declared.record.Event.{Event}
use Rattle.history.specs.Record.{no_event}
use Rattle.criteria.proofs.Loops.{any-default}
use Rattle.replays.proofs.LightLaws.{made_at}
use Rattle.faults.proofs.order.processes_of.Goals as goal

pub loop-e-preserved : goal.loop-e-preserved
loop-e-preserved c =
    let here : c.loop-e.e < length c.args.events.now = search rules in (
      length-set c.loop-e.processes c.loop-e.e _ ∙ c.loop-e.invariant.0,
      made_at (λ (k : ℕ). (get_or c.args.events.now k no_event).process.0) 0 c.loop-e.processes c.loop-e.e _ (omega (arith, here, c.told-events, c.loop-e.invariant.0))
          (ap (λ (x : Event). x.process.0) (any-default c.args.events.now c.loop-e.e _ no_event here)) c.loop-e.invariant.1,
    )

pub returns : goal.returns
returns c = λ e h. c.loop-e.invariant.1 e (let done : c.loop-e.e ≡ 64 = search rules in omega (arith, h, done))
