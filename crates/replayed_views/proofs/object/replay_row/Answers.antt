-- The view is cut down to the row, and the part is replayed; a silent event is never wrong.
use native.Mathlib.Omega.{arith}
use mathlib.Core.Path.{◌≡◌, ap, ◌∙◌}
use mathlib.Core.Bool.{true}
use lib.ListN.{length, get_or, length-take}
use Rattle.objects.specs.State.{contents_of}
use Rattle.replays.specs.Replay.{no_light, history_in}
use Rattle.orders.proofs.CutLaws.{entries-listed}
use Rattle.replayed_views.specs.Steps.{one_wrong}
use Rattle.replayed_views.proofs.ObjectLaws.{silent-part}
use Rattle.replayed_views.proofs.CutLaws.{part-ready}
use Rattle.replayed_views.proofs.object.replay_row.Goals as goal

pub returns-then-history-from : goal.returns-then-history-from
returns-then-history-from c =
    let silent : (get_or c.args.history.now.events c.args.e.0 no_light).silent ≡ true = rw c.from.ensures at c.if-history-from.true in
    silent-part c.requires silent _ _

pub replay_object-requires : goal.replay_object-requires
replay_object-requires c =
    let kept = c.entries.ensures ∙ entries-listed c.cut_to-cut.result _ c.cut_to-cut.ensures.list in
    part-ready c.args.row c.requires kept (omega (arith, ap length c.entries.ensures, length-take c.cut_to-cut.result.count c.cut_to-cut.result.events, c.cut_to-cut.ensures.few))

pub returns : goal.returns
returns c =
    let kept = c.entries.ensures ∙ entries-listed c.cut_to-cut.result _ c.cut_to-cut.ensures.list in
    c.replay_object.ensures
    ∙ ap (one_wrong (history_in c.args.history.now) c.args.e.0 (get_or c.args.history.now.events c.args.e.0 no_light).object (contents_of c.args.history.now.values c.args.start)) kept
