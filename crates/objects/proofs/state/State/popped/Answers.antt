-- A pop takes away the value at the end that the kind says, if there is one. Assumes nothing.
use native.Mathlib.Omega.{arith}
use borrow.Author.Rules.{rules}
use Rattle.objects.proofs.StateLaws.{pop-none, pop-newest, pop-oldest}
use Rattle.objects.proofs.state.State.popped.Goals as goal

pub returns-then-self : goal.returns-then-self
returns-then-self c number = pop-none c.args.self c.if-self.true number

pub returns-then-self-2 : goal.returns-then-self-2
returns-then-self-2 c number =
    pop-newest c.args.self (omega arith) (search rules) c.if-self-2.true number

pub returns : goal.returns
returns c number =
    pop-oldest c.args.self (omega arith) c.if-self-2.false number
