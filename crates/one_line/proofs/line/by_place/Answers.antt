-- `by_place` meets its contract: the line so far has the events of the places below m. Assumes nothing.
use Rattle.std.proofs.Common.{◌≡◌, ◌+◌, ◌∙◌, length, get_or, arith}
use Rattle.orders.proofs.CutLaws.{nothing-listed}
use Rattle.one_line.proofs.LineLaws.{line-room}
use Rattle.one_line.proofs.line.by_place.Goals as goal

pub loop-m-init : goal.loop-m-init
loop-m-init c = c.no_list-line.ensures ∙ nothing-listed

pub returns : goal.returns
returns c =
    let n = length c.args.places.now in
    let z : c.loop-m.m ≡ n + n + 2 = omega arith in
    let q = rw z at c.loop-m.invariant in
    (q, line-room n (λ e. get_or c.args.places.now e 0) (n + n + 2) c.loop-m.line q c.requires)
