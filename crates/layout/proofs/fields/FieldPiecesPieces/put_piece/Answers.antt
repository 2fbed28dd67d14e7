-- `put_piece` meets its contract: the field, and the byte behind it. Assumes nothing.
use Rattle.std.proofs.Common.{arith, rules, ap, sym, ◌∙◌, length, ℕ, List}
use Rattle.layout.specs.Fill.{fill}
use Rattle.layout.proofs.FieldLaws.{field_is}
use Rattle.layout.proofs.PiecesLaws.{byte_then}
use Rattle.layout.proofs.fields.FieldPiecesPieces.put_piece.Goals as goal

pub returns : goal.returns
returns g c =
    let e = field_is g.F.Field.text c.args.self.now.fields.now c.args.i c.byte_behind.result c.index-self-i.result (search rules) c.byte_behind.ensures in
    let p = byte_then _ _ _ _ c.byte_behind.result (omega (arith, ap length e, c.requires.1)) c.put-k.ensures.0 c.put-k.ensures.1 in
    (p.0 ∙ sym (ap length e), p.1 ∙ sym (ap (λ (t : List ℕ). fill t c.args.part.now) e))
