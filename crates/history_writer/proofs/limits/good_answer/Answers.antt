-- `good_answer` meets its contract: that each value is below its bound is what its type says. Assumes nothing.
use Rattle.std.proofs.Common.{arith, rules, ◌≡◌, true, take}
use Rattle.std.proofs.lemmas.Grind.{common_steps}
use Rattle.std.proofs.lemmas.Bool.Decides.{nat_tests}
use Rattle.history.specs.Record.{value_bound}
use Rattle.history.specs.Readable.{all_less, good_answer}
use Rattle.history_writer.proofs.LimitLaws.{firsts_less}
use Rattle.history_writer.proofs.limits.good_answer.Goals as goal

pub returns-then-may_answer : goal.returns-then-may_answer
unfolding good_answer
returns-then-may_answer c =
    let less : all_less value_bound (take c.args.a.count c.args.a.values) ≡ true = firsts_less value_bound c.args.a.count c.args.a.values (λ i h. search rules) in
    grind (arith, common_steps, nat_tests, less)
