-- A read copies the first eight numbers. Assumes nothing.
use borrow.Author.Rules.{rules}
use Rattle.objects.proofs.StateLaws.{read-answers}
use Rattle.objects.proofs.state.State.read.Goals as goal

pub returns : goal.returns
returns c =
    read-answers c.args.self.now c.from.result c.from-2.result c.min-count.result c.copy_from_slice.new.self _ (search rules)
    c.from.ensures c.from-2.ensures c.min-count.ensures c.copy_from_slice.ensures.after
