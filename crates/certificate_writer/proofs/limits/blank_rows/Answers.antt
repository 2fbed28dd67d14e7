-- `blank_rows` meets its contract. Assumes nothing.
use Rattle.std.proofs.Common.{◌&&◌, List, ℕ, eqb, length, rules, tests, refl}
use Rattle.std.proofs.lemmas.Iterator.{YieldsList-from_slice}
use Rattle.history.specs.Readable.{all_zero}
use Rattle.history.proofs.AllLaws.{all-from_all}
use Rattle.certificate.specs.Readable.{blank_rows}
use Rattle.certificate_writer.proofs.limits.blank_rows.Goals as goal

pub returns : goal.returns
unfolding blank_rows
returns c =
    all-from_all (λ (row : List ℕ). eqb (length row) 64 && all_zero row) blank_rows _ _ _ refl (λ row more. refl) c.all.ensures.ran (YieldsList-from_slice c.args.rows.now cc)
    (λ x b q k. search (rules, tests))
