-- `good_past` meets its contract. Assumes nothing.
use Rattle.std.proofs.Common.{arith, sym, ◌∙◌}
use Rattle.certificate_writer.proofs.LimitLaws.{row_few}
use Rattle.certificate_writer.proofs.limits.good_past.Goals as goal

pub entries-requires : goal.entries-requires
entries-requires c =
    omega (arith, c.requires, row_few c.args.count c.args.l.now.count c.args.l.now.events (sym c.good_row.ensures.0 ∙ c.if-good_row.true))
