-- The value at the end that the kind says, if there is one. Assumes nothing.
use native.Mathlib.Omega.{arith}
use borrow.Author.Rules.{rules}
use Rattle.objects.proofs.StateLaws.{shows-none, shows-newest, shows-oldest}
use Rattle.objects.proofs.state.State.ended.Goals as goal

pub returns-then-self : goal.returns-then-self
returns-then-self c = shows-none c.args.self.now c.none.result c.if-self.true c.none.ensures

pub returns-then-self-2 : goal.returns-then-self-2
returns-then-self-2 c =
    shows-newest c.args.self.now c.one.result (omega arith) (search rules) c.if-self-2.true (rw c.from.ensures at c.one.ensures)

pub returns-else-self-2 : goal.returns-else-self-2
returns-else-self-2 c =
    shows-oldest c.args.self.now c.one-else-self-2.result (omega arith) (search rules) c.if-self-2.false
    (rw c.from-else-self-2.ensures at c.one-else-self-2.ensures)
