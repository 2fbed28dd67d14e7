-- `list_line` meets its contract. Assumes nothing.
use Rattle.certificate_writer.proofs.FieldLaws.{list_line_is}
use Rattle.certificate_writer.proofs.line.list_line.Goals as goal

pub returns : goal.returns
returns c = list_line_is c.args.own c.args.events
