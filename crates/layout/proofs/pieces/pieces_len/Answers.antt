-- `pieces_len` meets its contract: the bytes counted and those of the pieces left are all bytes. Assumes nothing.
use Rattle.std.proofs.Common.{◌≡◌, ◌≤◌, ◌-◌, ◌+◌, arith, rules, length, ap}
use Rattle.std.proofs.Math.Nat.{mul-le-mul_left}
use Rattle.layout.proofs.PiecesLaws.{pieces_long, pieces_from_end}
use Rattle.layout.proofs.pieces.pieces_len.Goals as goal

pub loop-i-init : goal.loop-i-init
loop-i-init g c =
    let k : g.P.Pieces.count c.args.pieces.now - 0 ≡ g.P.Pieces.count c.args.pieces.now = omega arith in
    (omega arith, omega arith, rw k (omega arith))

pub overflow_add-total : goal.overflow_add-total
overflow_add-total g c =
    let less : c.loop-i.i + 1 ≤ g.P.Pieces.count c.args.pieces.now = search rules in
    omega (arith, c.loop-i.invariant.1, c.piece_len-total.ensures.1, c.requires, mul-le-mul_left g.P.CountedPieces.most less)

pub loop-i-preserved : goal.loop-i-preserved
loop-i-preserved g c =
    let k = pieces_long (g.P.Pieces.piece c.args.pieces.now) c.loop-i.i (g.P.Pieces.count c.args.pieces.now) (search rules) in
    (search rules, omega (arith, c.loop-i.invariant.1, c.piece_len-total.ensures.1), omega (arith, c.loop-i.invariant.2, c.piece_len-total.ensures.0))

pub returns : goal.returns
returns g c =
    let e = pieces_from_end (g.P.Pieces.piece c.args.pieces.now) c.loop-i.i (g.P.Pieces.count c.args.pieces.now) (search rules) in
    let i : c.loop-i.i ≡ g.P.Pieces.count c.args.pieces.now = omega (arith, c.loop-i.invariant.0) in
    (omega (arith, ap length e, c.loop-i.invariant.2), rw i at c.loop-i.invariant.1)
