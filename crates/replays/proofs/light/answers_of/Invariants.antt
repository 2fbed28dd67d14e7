-- The first i answers are those of the events.
use Rattle.std.proofs.Common.{◌≡◌}
use lib.ListN.{length}
use Rattle.history.specs.declared.record.Event.{Event}
use Rattle.history.specs.Record.{no_event}
use Rattle.replays.specs.Replay.{unused_answer}
use Rattle.replays.proofs.LightLaws.{Made}
use Rattle.replays.proofs.light.answers_of.Given as goal

abbrev pub invariant-loop-i : goal.invariant-loop-i
invariant-loop-i l = (length l.answers ≡ 64) × Made (λ (x : Event). x.answer) no_event unused_answer l.events l.answers l.i
