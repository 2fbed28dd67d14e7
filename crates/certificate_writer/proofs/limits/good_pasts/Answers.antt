-- `good_pasts` meets its contract. Assumes nothing.
use Rattle.std.proofs.Common.{◌&&◌, rules, tests, refl}
use Rattle.std.proofs.lemmas.Iterator.{YieldsList-from_slice}
use Rattle.history.proofs.AllLaws.{all-from_all}
use Rattle.certificate.specs.declared.record.EventList.{EventList}
use Rattle.certificate.specs.Record.{entries_in}
use Rattle.certificate.specs.Faults.{rising}
use Rattle.certificate.specs.Readable.{good_row, good_pasts}
use Rattle.certificate_writer.proofs.limits.good_pasts.Goals as goal

pub returns : goal.returns
unfolding good_pasts
returns c =
    all-from_all (λ (l : EventList). good_row c.args.count l.count l.events && rising (entries_in l)) (good_pasts c.args.count) _ _ _ refl (λ l more. refl) c.all.ensures.ran (YieldsList-from_slice c.args.pasts.now cc)
    (λ x b q k. search (rules, tests))
