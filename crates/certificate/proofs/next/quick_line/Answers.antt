-- `quick_line` meets its contract: the line's own number, a space and a list that is good are a line without a fault. Assumes nothing.
use mathlib.Core.Path.{◌∙◌}
use Rattle.layout.proofs.LeadingLaws.{spaced_leads}
use Rattle.certificate.proofs.NextLaws.{line-first}
use Rattle.certificate.proofs.next.quick_line.Goals as goal

pub returns : goal.returns
returns c =
    line-first _ _ _ _ _ _ (spaced_leads _ _ _ _ c.in_ok-number.ensures.0).0 (c.if-number-from.false ∙ c.from.ensures) _ c.quick_list.ensures
