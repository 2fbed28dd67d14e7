-- `views` meets its contract: the first views are lists of events. Assumes nothing.
use Rattle.orders.proofs.ViewLaws.{views-first}
use Rattle.weakened_records.proofs.PassedLaws.{views-passed}
use Rattle.std.proofs.Common.{length}
use Rattle.weakened_records.proofs.records.Passing.views.Goals as goal

pub invariant_of-result-clause-events : goal.invariant_of-result-clause-events
invariant_of-result-clause-events c =
    let p = c.args.self.now in
    let m = length c.args.numbers.now in
    views-first p.of.now.views p.of.now.certificate.lengths m 64 (views-passed p.h.now p.of.now.certificate p.of.now.views p.passed m c.requires)
