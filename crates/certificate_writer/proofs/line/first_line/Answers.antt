-- `first_line` meets its contract. Assumes nothing.
use Rattle.certificate_writer.proofs.FieldLaws.{first_line}
use Rattle.certificate_writer.proofs.line.first_line.Goals as goal

pub returns : goal.returns
returns c = first_line c.args.c
