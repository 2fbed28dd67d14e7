-- `leading_digits` meets its contract. Assumes nothing.
use Rattle.std.proofs.Common.{arith, sym, ◌∙◌}
use Rattle.layout.specs.Number.{is_digit}
use Rattle.layout.proofs.NumberLaws.{digits-stop, digits-end, reading-begins, reading-next, reading-over}
use Rattle.layout.proofs.number.leading_digits.Goals as goal

pub loop-i-init : goal.loop-i-init
loop-i-init c = (omega arith, reading-begins c.args.bound c.args.text.now)

pub returns-then-not-is_ascii_digit : goal.returns-then-not-is_ascii_digit
unfolding is_digit
returns-then-not-is_ascii_digit c =
    let none = digits-stop c.args.text.now c.loop-i.i c.loop-i-test.true (sym c.is_ascii_digit.ensures.value ∙ c.if-not-is_ascii_digit.true) in
    let t = reading-over c.loop-i.invariant.1 none in
    (t.0, t.1, omega arith)

pub loop-i-preserved : goal.loop-i-preserved
unfolding is_digit
loop-i-preserved c = (
  c.push_digit-value.ensures.1,
  reading-next c.loop-i.invariant.1 c.loop-i-test.true (sym c.is_ascii_digit.ensures.value ∙ c.if-not-is_ascii_digit.false) _ c.push_digit-value.ensures.0,
)

pub returns : goal.returns
returns c =
    let t = reading-over c.loop-i.invariant.1 (digits-end c.args.text.now c.loop-i.i c.loop-i-test.false) in
    (t.0, omega (arith, t.1), omega arith)
