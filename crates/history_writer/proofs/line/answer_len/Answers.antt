-- `answer_len` meets its contract. Assumes nothing.
use Rattle.std.proofs.Common.{sym, ap, ◌∙◌, arith, length}
use Rattle.history_writer.proofs.PieceLaws.{lost_is, told_is}
use Rattle.history_writer.proofs.line.answer_len.Goals as goal

pub returns-then-a : goal.returns-then-a
returns-then-a c = (sym (ap length (lost_is c.args.a c.if-a.true)), omega arith)

pub returns : goal.returns
returns c = (c.list_len.ensures.0 ∙ ap length (told_is c.args.a _ c.if-a.false c.told_values.ensures), c.list_len.ensures.1)
