-- `all_zero` meets its contract. Assumes nothing.
use Rattle.std.proofs.Common.{ℕ, eqb, rules, tests, refl}
use Rattle.std.proofs.lemmas.Iterator.{YieldsList-from_slice}
use Rattle.history.specs.Readable.{all_zero}
use Rattle.history.proofs.AllLaws.{all-from_all}
use Rattle.certificate_writer.proofs.limits.all_zero.Goals as goal

pub returns : goal.returns
unfolding all_zero
returns c =
    all-from_all (λ (e : ℕ). eqb e 0) all_zero _ _ _ refl (λ e more. refl) c.all.ensures.ran (YieldsList-from_slice c.args.row.now cc)
    (λ x b q k. search (rules, tests))
