-- `put_pieces` meets its contract: the pieces left, written behind what is there, complete the text. Assumes nothing.
use Rattle.std.proofs.Common.{◌≡◌, ◌-◌, arith, rules}
use Rattle.layout.proofs.FillLaws.{writing_begins, writing-room, writing-sum, writing-part, writing-ends}
use Rattle.layout.proofs.PiecesLaws.{pieces_next, pieces_from_end}
use Rattle.layout.proofs.pieces.put_pieces.Goals as goal

pub loop-i-init : goal.loop-i-init
loop-i-init g c =
    let k : g.P.Pieces.count c.args.pieces.now - 0 ≡ g.P.Pieces.count c.args.pieces.now = omega arith in
    (omega arith, rw k (writing_begins _ _ c.requires))

pub put_piece-at-requires : goal.put_piece-at-requires
put_piece-at-requires g c =
    let piece = g.P.Pieces.piece c.args.pieces.now in
    let next = pieces_next piece c.loop-i.i (g.P.Pieces.count c.args.pieces.now) (search rules) in
    (search rules, writing-room c.loop-i.invariant.1 (piece c.loop-i.i) _ next)

pub overflow_add-at : goal.overflow_add-at
overflow_add-at g c =
    let piece = g.P.Pieces.piece c.args.pieces.now in
    let next = pieces_next piece c.loop-i.i (g.P.Pieces.count c.args.pieces.now) (search rules) in
    omega (arith, c.put_piece-at.ensures.0, writing-sum c.loop-i.invariant.1 (piece c.loop-i.i) _ next)

pub loop-i-preserved : goal.loop-i-preserved
loop-i-preserved g c =
    let piece = g.P.Pieces.piece c.args.pieces.now in
    let next = pieces_next piece c.loop-i.i (g.P.Pieces.count c.args.pieces.now) (search rules) in
    (search rules, writing-part c.loop-i.invariant.1 (piece c.loop-i.i) _ next _ _ c.put_piece-at.ensures.0 c.put_piece-at.ensures.1)

pub returns : goal.returns
returns g c = writing-ends c.loop-i.invariant.1 (pieces_from_end (g.P.Pieces.piece c.args.pieces.now) c.loop-i.i (g.P.Pieces.count c.args.pieces.now) (search rules))
