-- The first i values are those of the events, and the last is 0.
use Rattle.std.proofs.Common.{◌≡◌}
use lib.ListN.{length, get_or}
use Rattle.history.specs.declared.record.Event.{Event}
use Rattle.history.specs.Record.{no_event}
use Rattle.replays.proofs.LightLaws.{Made}
use Rattle.replays.proofs.light.values_of.Given as goal

abbrev pub invariant-loop-i : goal.invariant-loop-i
invariant-loop-i l =
    (length l.values ≡ 65) × Made (λ (x : Event). x.value) no_event 0 l.events l.values l.i × (get_or l.values 64 0 ≡ 0)
