-- `fields` of an object meets its contract. Assumes nothing.
use Rattle.std.proofs.Common.{rules}
use Rattle.history_writer.proofs.PieceLaws.{object_line}
use Rattle.history_writer.proofs.write.ObjectRow3.fields.Goals as goal

pub returns : goal.returns
returns c = object_line c.args.own c.args.self.now c.number_or_dash.result (search rules)
