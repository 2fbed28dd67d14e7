-- `visible_views` meets its contract: the answers that are visible in the first k views are those of the criterion.
use Rattle.std.proofs.Common.{arith, ◌∙◌}
use lib.ListN.{length-set}
use Rattle.replays.specs.Visible.{no_visible, visible_at}
use Rattle.replays.proofs.LightLaws.{made_at}
use Rattle.replays.proofs.visible.visible_views.Goals as goal

pub loop-k-preserved : goal.loop-k-preserved
loop-k-preserved c = (
  length-set c.loop-k.views c.loop-k.k _ ∙ c.loop-k.invariant.0,
  made_at (visible_at c.args.c c.args.numbers.now c.args.events.now) no_visible c.loop-k.views c.loop-k.k c.visible_in.result
      (omega (arith, c.loop-k.invariant.0, c.loop-k-test.true, c.requires)) c.visible_in.ensures c.loop-k.invariant.1,
)
