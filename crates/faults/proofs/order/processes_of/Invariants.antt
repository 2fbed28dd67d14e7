-- The processes of the first e events are there.
use Rattle.std.proofs.Common.{◌≡◌, length}
use Rattle.history.specs.declared.record.Event.{Event}
use Rattle.history.specs.Record.{no_event}
use Rattle.replays.proofs.LightLaws.{Made}
use Rattle.faults.proofs.order.processes_of.Given as goal

abbrev pub invariant-loop-e : goal.invariant-loop-e
invariant-loop-e l = (length l.processes ≡ 64) × Made (λ (x : Event). x.process.0) no_event 0 l.events l.processes l.e
