-- `read_number` meets its contract: a number has no byte but its digits, and starts well. Assumes nothing.
use Rattle.std.proofs.Common.{arith, sym, ◌∙◌}
use Rattle.layout.proofs.NumberLaws.{digits-short, starts-not, number-not, number-read, below-value, below-not}
use Rattle.layout.proofs.number.read_number.Goals.{then-n-field-via-then-n-field, then-n-field-via-else-n-field+then-not-starts_well}
use Rattle.layout.proofs.number.read_number.Goals as goal

pub returns-then-n-field : goal.returns-then-n-field
returns-then-n-field c =
    elim c.then-n-field.branch [
      | then-n-field-via-then-n-field w ↦ sym (number-not c.args.bound c.args.field.now (digits-short c.args.field.now (omega (arith, c.leading_digits-value.ensures.1, w.if-n-field.true))))
      | then-n-field-via-else-n-field+then-not-starts_well w ↦ sym (number-not c.args.bound c.args.field.now (starts-not c.args.field.now (sym w.starts_well.ensures ∙ w.if-not-starts_well.true)))
    ]

pub returns-then-value-bound : goal.returns-then-value-bound
returns-then-value-bound c =
    sym (number-read c.args.bound c.args.field.now c.leading_digits-value.result.0 c.leading_digits-value.ensures.0 (omega arith) (sym c.starts_well.ensures ∙ c.if-not-starts_well.false)
    ∙ below-value c.args.bound c.leading_digits-value.result.0 c.if-value-bound.true)

pub returns : goal.returns
returns c =
    sym (number-read c.args.bound c.args.field.now c.leading_digits-value.result.0 c.leading_digits-value.ensures.0 (omega arith) (sym c.starts_well.ensures ∙ c.if-not-starts_well.false)
    ∙ below-not c.args.bound c.leading_digits-value.result.0 c.if-value-bound.false)
