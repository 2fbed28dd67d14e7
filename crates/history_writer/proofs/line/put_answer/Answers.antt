-- `put_answer` meets its contract. Assumes nothing.
use Rattle.std.proofs.Common.{List, ℕ, sym, ap, ◌∙◌, arith, length}
use Rattle.layout.specs.Fill.{fill}
use Rattle.history_writer.proofs.PieceLaws.{lost_is, told_is}
use Rattle.history_writer.proofs.line.put_answer.Goals as goal

pub put_bytes-requires : goal.put_bytes-requires
put_bytes-requires c = omega (arith, c.requires, ap length (lost_is c.args.a c.if-a.true))

pub returns-then-a : goal.returns-then-a
returns-then-a c =
    let e = sym (lost_is c.args.a c.if-a.true) in
    (c.put_bytes.ensures.0 ∙ ap length e, c.put_bytes.ensures.1 ∙ ap (λ (t : List ℕ). fill t c.args.part.now) e)

pub put_list-requires : goal.put_list-requires
put_list-requires c = omega (arith, c.requires, ap length (told_is c.args.a _ c.if-a.false c.told_values.ensures))

pub returns : goal.returns
returns c =
    let e = told_is c.args.a _ c.if-a.false c.told_values.ensures in
    (c.put_list.ensures.0 ∙ ap length e, c.put_list.ensures.1 ∙ ap (λ (t : List ℕ). fill t c.args.part.now) e)
