-- `good_rows` meets its contract. Assumes nothing.
use Rattle.std.proofs.Common.{ℕ, List, rules, tests, sym, ◌∙◌}
use Rattle.std.proofs.lemmas.Iterator.{YieldsList-from_slice, YieldsList-from_zip}
use Rattle.std.proofs.lemmas.Iterator.Search.{all_from_yields_List}
use Rattle.certificate.specs.Readable.{good_row}
use Rattle.certificate_writer.proofs.AllLaws.{rows_are}
use Rattle.certificate_writer.proofs.limits.good_rows.Goals as goal

pub returns : goal.returns
returns c =
    all_from_yields_List (λ (p : ℕ × List ℕ). good_row c.args.count p.0 p.1) c.all.new.self _ _ c.all.ensures.ran
    (YieldsList-from_zip (YieldsList-from_slice c.args.lengths.now cc) (YieldsList-from_slice c.args.rows.now cc))
    (λ x b q k. search (rules, tests))
    ∙ sym (rows_are c.args.count c.args.lengths.now c.args.rows.now c.requires.1)
