-- `first_number` meets its contract. Assumes nothing.
use Rattle.std.proofs.Common.{sym, ◌∙◌}
use Rattle.layout.proofs.LeadingLaws.{leads, leads-over, leads-not}
use Rattle.layout.proofs.number.first_number.Goals.{else-value-bound-via-then-value-bound+else-starts_well, else-value-bound-via-else-value-bound}
use Rattle.layout.proofs.number.first_number.Goals as goal

pub returns-then-starts_well : goal.returns-then-starts_well
returns-then-starts_well c =
    let d = c.leading_digits-value.ensures in
    leads c.args.bound c.args.text.now _ _ d.0 d.1 c.if-value-bound.true (sym c.starts_well.ensures ∙ c.if-starts_well.true)

pub returns : goal.returns
returns c =
    let d = c.leading_digits-value.ensures in
    elim c.else-value-bound.branch [
      | else-value-bound-via-then-value-bound+else-starts_well w ↦ leads-not c.args.bound c.args.text.now _ _ d.0 d.1 (sym w.starts_well.ensures ∙ w.if-starts_well.false)
      | else-value-bound-via-else-value-bound w ↦ leads-over c.args.bound c.args.text.now _ _ d.0 d.1 w.if-value-bound.false
    ]
