-- `put_fields` meets its contract: the fields and the bytes behind them are the pieces of the line. Assumes nothing.
use Rattle.std.proofs.Common.{arith, ap, ◌∙◌, length, ℕ, List}
use Rattle.layout.specs.Fill.{fill}
use Rattle.layout.proofs.FieldLaws.{line_is}
use Rattle.layout.proofs.fields.put_fields.Goals as goal

pub put_pieces-requires : goal.put_pieces-requires
put_pieces-requires g c = omega (arith, ap length (line_is g.F.Field.text c.args.fields.now), c.requires)

pub returns : goal.returns
returns g c =
    let e = line_is g.F.Field.text c.args.fields.now in
    (c.put_pieces.ensures.0 ∙ ap length e, c.put_pieces.ensures.1 ∙ ap (λ (t : List ℕ). fill t c.args.part.now) e)
