-- `view_rows` meets its contract: the views of the first k places are made. Assumes nothing.
use Rattle.std.proofs.Common.{rules, arith, ◌<◌}
use Rattle.weakened.proofs.RowsLaws.{no_rows, no_lengths, row-set, length-set-in}
use Rattle.weakened.proofs.views.view_rows.Goals as goal

pub loop-k-init : goal.loop-k-init
loop-k-init g c = λ view posts. (no_rows, no_lengths)

pub loop-k-preserved : goal.loop-k-preserved
loop-k-preserved g c = λ view posts.
    let kept = c.loop-k.invariant view posts in
    let next : c.loop-k.k < c.args.m = search rules in
    let few : c.loop-k.k < 64 = omega (arith, next, c.requires.few) in
    let q = posts c.loop-k.k c.make-count.result next c.make-count.ensures in
    (row-set view c.loop-k.k few c.make-count.result q c.loop-k.rows kept.0, length-set-in view c.loop-k.k few c.make-count.result q c.loop-k.lengths kept.1)
