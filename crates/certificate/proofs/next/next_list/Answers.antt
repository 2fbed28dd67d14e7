-- `next_list` meets its contract: the quick way tells what the line is, or the line is cut and read. Assumes nothing.
use borrow.Author.Rules.{rules}
use Rattle.certificate.specs.Steps.Lists.{is_past}
use Rattle.certificate.proofs.NextLaws.{next-is}
use Rattle.certificate.proofs.next.next_list.Goals as goal

pub returns : goal.returns
returns c =
    next-is (is_past c.args.part.sort) c.args.part.count c.args.own c.args.text.now c.quick_line-quick.result c.next_line.result c.quick_line-quick.ensures
    (search rules)
