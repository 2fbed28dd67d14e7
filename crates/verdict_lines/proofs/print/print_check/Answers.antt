-- `print_check` meets its contract: the lines fill the first bytes. Assumes nothing.
use Rattle.std.proofs.Common.{arith, ap, ◌∙◌}
use Rattle.checker.specs.CheckText.{Verdict}
use Rattle.checker.proofs.VerdictLaws.{answer-small}
use Rattle.verdict_lines.specs.Printed.{printed_in}
use Rattle.verdict_lines.proofs.PieceLaws.{printed-whole}
use Rattle.verdict_lines.proofs.print.print_check.Goals as goal

pub put_verdict-length-requires : goal.put_verdict-length-requires
put_verdict-length-requires c = (
  omega arith,
  omega (arith, (answer-small c.args.history.now c.args.text.now _ (ap (λ (v : Verdict). v.place) c.check.ensures)).line),
)

pub returns : goal.returns
returns c =
    printed-whole _ c.put_verdict-length.result _ c.put_verdict-length.ensures.0 c.put_verdict-length.ensures.1 ∙ ap printed_in c.check.ensures
