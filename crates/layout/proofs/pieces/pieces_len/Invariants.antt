-- `pieces_len` meets its contract: the bytes counted and those of the pieces left are all bytes. Assumes nothing.
use Rattle.std.proofs.Common.{◌≡◌, ◌≤◌, ◌-◌, ◌+◌, ◌*◌, length}
use Rattle.layout.specs.Pieces.{pieces_from}
use Rattle.layout.proofs.pieces.pieces_len.Given as goal

abbrev pub invariant-loop-i : goal.invariant-loop-i
invariant-loop-i g l =
    (l.i ≤ g.P.Pieces.count l.pieces)
    × (l.total ≤ g.P.CountedPieces.most * l.i)
    × (l.total + length (pieces_from (g.P.Pieces.piece l.pieces) l.i (g.P.Pieces.count l.pieces - l.i))
    ≡ length (pieces_from (g.P.Pieces.piece l.pieces) 0 (g.P.Pieces.count l.pieces)))
