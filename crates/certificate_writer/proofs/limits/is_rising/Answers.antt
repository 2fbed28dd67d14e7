-- `is_rising` meets its contract. Assumes nothing.
use Rattle.std.proofs.Common.{rules, tests, ltb, ℕ}
use Rattle.std.proofs.lemmas.Fn.{always_returns_same}
use Rattle.certificate.proofs.RisingLaws.{rising_is}
use Rattle.certificate_writer.proofs.limits.is_rising.Goals as goal

pub returns : goal.returns
returns c =
    rising_is c.args.row.now c.is_sorted_by.result
    (c.is_sorted_by.ensures.cases (λ (x y : ℕ). ltb x y) (always_returns_same _ _ _ (λ a r q k. search (rules, tests))))
