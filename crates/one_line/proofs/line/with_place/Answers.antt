-- `with_place` meets its contract: the line so far has the events of the places below m, and those of the first events that are at m.
-- Assumes nothing.
use Rattle.std.proofs.Common.{ℕ, ◌∙◌, length, get_or}
use Rattle.one_line.proofs.LineLaws.{put-room, put_line, same_line}
use Rattle.one_line.proofs.line.with_place.Goals as goal
use Rattle.one_line.proofs.line.with_place.Goals.{then-place-m, else-place-m}

pub push-requires : goal.push-requires
push-requires c =
    put-room (length c.args.places.now) (λ e. get_or c.args.places.now e 0) c.requires.0 c.args.m c.loop-e.e c.loop-e.line c.loop-e.invariant c.loop-e-test.true c.if-place-m.true

pub loop-e-preserved : goal.loop-e-preserved
loop-e-preserved c =
    let n = length c.args.places.now in
    let at : ℕ → ℕ = λ e. get_or c.args.places.now e 0 in
    elim c.if-place-m.branch [
      | then-place-m w ↦
          w.line-is ∙ w.push.ensures.list _ c.loop-e.invariant ∙ put_line n at c.requires.0 c.args.m c.loop-e.e c.loop-e.line c.loop-e.invariant c.loop-e-test.true w.if-place-m.true
      | else-place-m w ↦ w.line-is ∙ c.loop-e.invariant ∙ same_line n at c.args.m c.loop-e.e w.if-place-m.false
    ]
