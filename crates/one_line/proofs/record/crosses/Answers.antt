-- `crosses` meets its contract: the rows are the order of the pasts. Assumes nothing.
use Rattle.std.proofs.Common.{ℕ, ap, ◌∙◌}
use Rattle.criteria.specs.Tests.{any}
use Rattle.criteria.specs.OneLine.{crosses}
use Rattle.criteria.specs.Records.{history_of}
use Rattle.weakened_records.proofs.RecordLaws.{pasts-order}
use Rattle.one_line.specs.Steps.{crosses_at}
use Rattle.one_line.proofs.RecordLaws.{crosses-is}
use Rattle.one_line.proofs.record.crosses.Goals as goal

pub returns : goal.returns
returns c =
    let h = c.args.h.now in
    let o = c.order_of.result in
    λ views.
    c.crossing.ensures ∙ ap (λ (n : ℕ). any n (crosses_at o.pasts o.updates n)) c.order_of.ensures.size
    ∙ crosses-is h c.requires.history o.pasts o.updates c.order_of.ensures.updates
    ∙ ap (crosses (history_of h)) (pasts-order h c.args.c.now views c.requires.history c.requires.has o.pasts c.order_of.ensures.pasts)
