-- `fields` of an event meets its contract. Assumes nothing.
use Rattle.std.proofs.Common.{rules}
use Rattle.history_writer.proofs.PieceLaws.{event_line}
use Rattle.history_writer.proofs.write.EventRow6.fields.Goals as goal

pub returns : goal.returns
returns c = rw (c.from.ensures, c.from-2.ensures) (event_line c.args.own c.args.self.now c.number_or_dash.result (search rules))
