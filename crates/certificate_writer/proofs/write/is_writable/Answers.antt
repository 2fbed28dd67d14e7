-- `is_writable` meets its contract. Assumes nothing.
use Rattle.std.proofs.Common.{sym, ◌∙◌}
use Rattle.history.proofs.WithinLaws.{within-limits}
use Rattle.certificate_writer.proofs.write.is_writable.Goals as goal

pub fits_history-requires : goal.fits_history-requires
fits_history-requires c =
    let l = within-limits c.args.h.now (sym c.is_within.ensures ∙ c.if-is_within.true) in
    (l.count, l.all)
