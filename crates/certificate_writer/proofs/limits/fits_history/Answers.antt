-- `fits_history` meets its contract: the criterion says how many pasts and views there are. Assumes nothing.
use Rattle.std.proofs.Common.{◌∙◌}
use Rattle.certificate_writer.proofs.LimitLaws.{fits_is}
use Rattle.certificate_writer.proofs.limits.fits_history.Goals as goal

pub returns : goal.returns
returns c =
    rw c.past_count-pasts.ensures at c.parts_fit.ensures
    ∙ fits_is c.args.h.now c.args.c.now c.args.rows.now c.requires.1 c.view_numbers-views.result
    (rw c.recorded_events.ensures.events at c.view_numbers-views.ensures.0)
