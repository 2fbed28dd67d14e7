-- `line_record` meets its contract: the record is that of the lists. Assumes nothing.
use Rattle.std.proofs.Common.{ℕ, ◌≡◌, ◌<◌, get_or, ap, ◌∙◌, arith}
use Rattle.certificate.specs.Record.{event_list_of}
use Rattle.criteria.specs.OneLine.{one_line}
use Rattle.criteria.specs.Records.{history_of}
use Rattle.faults.proofs.CheckLaws.{few-of}
use Rattle.weakened_records.proofs.RecordLaws.{pasts-order}
use Rattle.one_line.specs.Steps.{place_in}
use Rattle.one_line.proofs.RecordLaws.{first-places, line-is, record_is}
use Rattle.one_line.proofs.record.line_record.Goals as goal

pub returns : goal.returns
returns c =
    let h = c.args.h.now in
    let o = c.order_of.result in
    let few = few-of h c.requires.history in
    let places = c.places_of-places.result in
    let its : (e : ℕ) → e < h.count → get_or places e 0 ≡ place_in o.pasts o.updates e =
    λ e l. c.places_of-places.ensures.1 e (let q = c.order_of.ensures.size in omega arith) in
    λ views.
    record_is h c.args.c.now views c.requires.has c.by_place-line.result
    (c.by_place-line.ensures.0
    ∙ ap event_list_of (first-places places h.count (omega (arith, few, c.places_of-places.ensures.0))
    ∙ line-is h c.requires.history o.pasts o.updates c.order_of.ensures.updates places its
    ∙ ap (one_line (history_of h)) (pasts-order h c.args.c.now views c.requires.history c.requires.has o.pasts c.order_of.ensures.pasts)))
    _ c.no_pasts.ensures _ (rw c.entries.ensures at c.whole_views-views.ensures) c.record_of.result c.record_of.ensures
