-- `put_parts` meets its contract: the part of the pasts, and the part of the views behind it. Assumes nothing.
use Rattle.layout.proofs.PiecesLaws.{text_then}
use Rattle.certificate_writer.proofs.write.put_parts.Goals as goal

pub returns : goal.returns
returns c = text_then _ _ _ _ _ _ _ c.requires c.put_pasts-k.ensures.0 c.put_pasts-k.ensures.1 c.put_headed.ensures.0 c.put_headed.ensures.1
