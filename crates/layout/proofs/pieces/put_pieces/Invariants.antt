-- `put_pieces` meets its contract: the pieces left, written behind what is there, complete the text. Assumes nothing.
use Rattle.std.proofs.Common.{◌≤◌, ◌-◌}
use Rattle.layout.specs.Pieces.{pieces_from}
use Rattle.layout.proofs.FillLaws.{Writing}
use Rattle.layout.proofs.pieces.put_pieces.Given as goal

abbrev pub invariant-loop-i : goal.invariant-loop-i
invariant-loop-i g l =
    (l.i ≤ g.P.Pieces.count l.pieces)
    × Writing (pieces_from (g.P.Pieces.piece l.pieces) 0 (g.P.Pieces.count l.pieces)) l.initial.part
    (pieces_from (g.P.Pieces.piece l.pieces) l.i (g.P.Pieces.count l.pieces - l.i)) l.part l.at
