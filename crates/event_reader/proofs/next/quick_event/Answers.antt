-- `quick_event` meets its contract: six fields that are in order are a line without a fault. Assumes nothing.
use mathlib.Core.Path.{sym, ◌∙◌}
use Rattle.layout.proofs.LeadingLaws.{spaced_leads}
use Rattle.event_reader.proofs.QuickLaws.{fields_first}
use Rattle.event_reader.proofs.next.quick_event.Goals as goal

pub returns : goal.returns
returns c =
    fields_first _ _ _ _ _ _ _ _ (c.if-number-from.false ∙ c.from.ensures) (spaced_leads _ _ _ _ c.in_ok-number.ensures.0)
    (spaced_leads _ _ _ _ c.in_ok-process.ensures.0) (spaced_leads _ _ _ _ c.in_ok-place.ensures.0)
    (sym c.if-not-has_op.ensures) c.in_ok-op.ensures c.in_ok-value.ensures c.in_ok-answer.ensures (sym c.if-not-may_answer.ensures)
