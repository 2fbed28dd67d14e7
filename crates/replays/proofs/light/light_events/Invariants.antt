-- The first i light records are those of the events.
use Rattle.std.proofs.Common.{◌≡◌}
use lib.ListN.{length}
use Rattle.history.specs.Record.{no_event}
use Rattle.replays.specs.Replay.{no_light}
use Rattle.replays.specs.Light.{light_of}
use Rattle.replays.proofs.LightLaws.{Made}
use Rattle.replays.proofs.light.light_events.Given as goal

abbrev pub invariant-loop-i : goal.invariant-loop-i
invariant-loop-i l = (length l.lights ≡ 64) × Made (light_of l.objects) no_event no_light l.events l.lights l.i
