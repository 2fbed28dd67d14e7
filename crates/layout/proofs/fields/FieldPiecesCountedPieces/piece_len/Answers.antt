-- `piece_len` meets its contract. Assumes nothing.
use Rattle.std.proofs.Common.{arith}
use Rattle.layout.proofs.fields.FieldPiecesCountedPieces.piece_len.Goals as goal

pub overflow_add-result : goal.overflow_add-result
overflow_add-result g c = omega (arith, c.text_len.ensures.1, g.met.F.CountedField.short)
