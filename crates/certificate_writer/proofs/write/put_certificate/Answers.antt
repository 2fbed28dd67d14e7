-- `put_certificate` meets its contract: the first line, and the parts behind it. Assumes nothing.
use Rattle.layout.proofs.PiecesLaws.{text_then}
use Rattle.certificate_writer.proofs.write.put_certificate.Goals as goal

pub returns : goal.returns
returns c =
    text_then _ _ _ _ _ _ _ c.requires (rw c.first_line.ensures at c.put_fields-k.ensures.0) (rw c.first_line.ensures at c.put_fields-k.ensures.1)
    c.put_parts.ensures.0 c.put_parts.ensures.1
