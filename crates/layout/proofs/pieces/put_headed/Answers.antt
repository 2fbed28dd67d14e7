-- `put_headed` meets its contract: the heading, and the pieces behind it. Assumes nothing.
use Rattle.layout.proofs.PiecesLaws.{text_then}
use Rattle.layout.proofs.pieces.put_headed.Goals as goal

pub returns : goal.returns
returns g c = text_then _ _ _ _ _ _ _ c.requires c.put_bytes-k.ensures.0 c.put_bytes-k.ensures.1 c.put_pieces.ensures.0 c.put_pieces.ensures.1
