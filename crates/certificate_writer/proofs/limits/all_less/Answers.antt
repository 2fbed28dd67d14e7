-- `all_less` meets its contract. Assumes nothing.
use Rattle.std.proofs.Common.{ℕ, ltb, rules, tests, refl}
use Rattle.std.proofs.lemmas.Iterator.{YieldsList-from_slice}
use Rattle.history.specs.Readable.{all_less}
use Rattle.history.proofs.AllLaws.{all-from_all}
use Rattle.certificate_writer.proofs.limits.all_less.Goals as goal

pub returns : goal.returns
unfolding all_less
returns c =
    all-from_all (λ (e : ℕ). ltb e c.args.count) (all_less c.args.count) _ _ _ refl (λ e more. refl) c.all.ensures.ran (YieldsList-from_slice c.args.row.now cc)
    (λ x b q k. search (rules, tests))
