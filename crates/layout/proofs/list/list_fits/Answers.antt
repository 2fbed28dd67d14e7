-- `list_fits` meets its contract: the room that is left and the bytes of the items before are all the room. Assumes nothing.
use Rattle.std.proofs.Common.{ℕ, List, arith, sym, ap, length, leb}
use borrow.Author.Tests.{le-leb, lt-leb}
use Rattle.layout.specs.List.{list_text}
use Rattle.layout.specs.Steps.List.{tail_text}
use Rattle.layout.proofs.FillLaws.{tail-part}
use Rattle.layout.proofs.ListTextLaws.{list-empty, list-long, tail-long, tail-end}
use Rattle.layout.proofs.list.list_fits.Goals as goal

pub returns-in_default : goal.returns-in_default
returns-in_default c = ap (λ (k : ℕ). leb k c.args.room) (sym (ap length (list-empty c.args.items.now (omega arith))))

pub returns-in_default-checked_sub : goal.returns-in_default-checked_sub
returns-in_default-checked_sub c =
    let n = c.in_default-checked_sub.ensures in
    sym (lt-leb (length (list_text c.args.items.now)) c.args.room
    (omega (arith, n, c.number_len.ensures.0, list-long c.args.items.now (omega arith))))

pub loop-x-init : goal.loop-x-init
loop-x-init c =
    omega (arith, c.in-Some.ensures, c.number_len.ensures.0, list-long c.args.items.now (omega arith), ap (λ (l : List ℕ). length (tail_text l)) (tail-part c.args.items.now 1))

pub returns-then-left-k : goal.returns-then-left-k
returns-then-left-k c =
    sym (lt-leb (length (list_text c.args.items.now)) c.args.room
    (omega (arith, c.loop-x.invariant, c.number_len-k.ensures.0, tail-long _ c.loop-x.x-index c.loop-x-test.true)))

pub loop-x-preserved : goal.loop-x-preserved
loop-x-preserved c = omega (arith, c.loop-x.invariant, c.number_len-k.ensures.0, tail-long _ c.loop-x.x-index c.loop-x-test.true)

pub returns : goal.returns
returns c =
    sym (le-leb (length (list_text c.args.items.now)) c.args.room
    (omega (arith, c.loop-x.invariant, ap length (tail-end _ c.loop-x.x-index c.loop-x-test.false))))
