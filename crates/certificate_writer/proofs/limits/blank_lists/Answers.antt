-- `blank_lists` meets its contract. Assumes nothing.
use Rattle.std.proofs.Common.{◌&&◌, eqb, length, rules, tests, refl}
use Rattle.std.proofs.lemmas.Iterator.{YieldsList-from_slice}
use Rattle.history.specs.Readable.{all_zero}
use Rattle.history.proofs.AllLaws.{all-from_all}
use Rattle.certificate.specs.declared.record.EventList.{EventList}
use Rattle.certificate.specs.Readable.{blank_lists}
use Rattle.certificate_writer.proofs.limits.blank_lists.Goals as goal

pub returns : goal.returns
unfolding blank_lists
returns c =
    all-from_all (λ (l : EventList). eqb l.count 0 && eqb (length l.events) 64 && all_zero l.events) blank_lists _ _ _ refl (λ l more. refl) c.all.ensures.ran (YieldsList-from_slice c.args.pasts.now cc)
    (λ x b q k. search (rules, tests))
