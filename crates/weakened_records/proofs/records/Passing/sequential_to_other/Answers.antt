-- `sequential_to_other` meets its contract: the record is that of the lists. Assumes nothing.
use Rattle.std.proofs.Common.{refl}
use Rattle.certificate.specs.declared.record.Criterion.TheVariants.{Sequential}
use Rattle.weakened_records.proofs.PassedLaws.{one_holds}
use Rattle.weakened_records.proofs.RecordLaws.{other-record}
use Rattle.weakened_records.proofs.records.Passing.sequential_to_other.Goals as goal

pub order_pasts-pasts-requires : goal.order_pasts-pasts-requires
order_pasts-pasts-requires c =
    let p = c.args.self.now in
    one_holds p.h.now p.of.now.certificate p.of.now.views p.passed Sequential c.requires.0 refl

pub returns : goal.returns
returns c =
    other-record c.args.self.now c.requires.0 c.args.wanted c.requires.1
    c.view_numbers-named.result (rw c.recorded_events.ensures.events at c.view_numbers-named.ensures.0) c.record_of.result c.order_pasts-pasts.result c.order_views.result c.record_of.ensures
    c.order_pasts-pasts.ensures c.order_views.ensures
