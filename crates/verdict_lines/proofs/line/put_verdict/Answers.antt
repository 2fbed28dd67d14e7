-- `put_verdict` meets its contract: the line of names, and the line of values behind it. Assumes nothing.
use Rattle.std.proofs.Common.{ap, ◌∙◌, sym, arith, length, length-append, map, List, ℕ}
use Rattle.layout.specs.Fill.{fill}
use Rattle.layout.specs.Fields.{pieces_text}
use Rattle.layout.proofs.PiecesLaws.{text_then}
use Rattle.checker.specs.Verdict.{verdict_of}
use Rattle.verdict_lines.specs.Printed.{names}
use Rattle.verdict_lines.specs.Steps.{field_text}
use Rattle.verdict_lines.proofs.PieceLaws.{printed-is}
use Rattle.verdict_lines.proofs.line.put_verdict.Goals as goal

pub returns : goal.returns
returns c =
    let left = pieces_text (map field_text c.fields_of-fields.result) in
    let e = printed-is (verdict_of c.args.answer) c.fields_of-fields.result c.fields_of-fields.ensures.0 in
    let w = text_then names left c.args.buf.now _ _ _ _ (omega (arith, c.requires.0, c.fields_of-fields.ensures.1, length-append names left))
    c.put_bytes-k.ensures.0 c.put_bytes-k.ensures.1 c.put_fields.ensures.0 c.put_fields.ensures.1 in (
      w.0 ∙ sym (ap length e),
      w.1 ∙ sym (ap (λ (t : List ℕ). fill t c.args.buf.now) e),
      omega (arith, c.put_fields.ensures.0, c.put_bytes-k.ensures.0, c.fields_of-fields.ensures.1),
    )
