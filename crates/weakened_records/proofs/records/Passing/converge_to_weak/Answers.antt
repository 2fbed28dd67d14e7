-- `converge_to_weak` meets its contract: the view has all events, and the rows are the order of the pasts. Assumes nothing.
use Rattle.std.proofs.Common.{rules}
use Rattle.std.proofs.Math.Seq.{get_or-take}
use Rattle.certificate.specs.Record.{no_list}
use Rattle.faults.proofs.CheckLaws.{take-few, taken}
use Rattle.weakened_records.proofs.PassedLaws.{short-passed}
use Rattle.weakened_records.proofs.ConvergeRecords.{converge-record}
use Rattle.weakened_records.proofs.records.Passing.converge_to_weak.Goals as goal

pub past_rows-order-requires : goal.past_rows-order-requires
past_rows-order-requires c =
    let p = c.args.self.now in
    let n = p.h.now.count in
    let pasts = p.of.now.certificate.pasts in (
      take-few n pasts p.few,
      λ k l. rw (get_or-take n pasts k no_list (taken n pasts k l)) (short-passed p.h.now p.of.now.certificate p.of.now.views p.passed k),
    )

pub cut_views-made-requires : goal.cut_views-made-requires
cut_views-made-requires c =
    take-few c.args.self.now.h.now.count c.past_rows-order.result c.args.self.now.few

pub returns : goal.returns
returns c =
    converge-record c.args.self.now c.requires c.past_rows-order.result c.past_rows-order.ensures
    c.record_of.result c.cut_views-made.result c.record_of.ensures (search rules) c.cut_views-made.ensures
