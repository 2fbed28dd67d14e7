-- An answer that was not lost is compared. Assumes nothing.
use native.Mathlib.Omega.{arith}
use mathlib.Core.Path.{◌≡◌}
use mathlib.Core.Bool.{false}
use Rattle.std.proofs.lemmas.Grind.{common_steps}
use Rattle.objects.specs.State.{given_of}
use Rattle.replays.proofs.ReplayLaws.{same-decides}
use Rattle.replays.proofs.light.LightHistory.fits_given.Goals as goal

pub returns-else-answer : goal.returns-else-answer
unfolding given_of
returns-else-answer c =
    let told : c.args.answer.now.lost ≡ false = c.if-answer.false in
    let s = same-decides c.same_values.ensures in
    rw told (grind (arith, common_steps))
