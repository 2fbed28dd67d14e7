-- `fields_len` meets its contract: the fields and the bytes behind them are the pieces of the line. Assumes nothing.
use Rattle.std.proofs.Common.{ap, ◌∙◌, length}
use Rattle.layout.proofs.FieldLaws.{line_is}
use Rattle.layout.proofs.fields.fields_len.Goals as goal

pub returns : goal.returns
returns g c = (c.pieces_len.ensures.0 ∙ ap length (line_is g.F.Field.text c.args.fields.now), c.pieces_len.ensures.1)
