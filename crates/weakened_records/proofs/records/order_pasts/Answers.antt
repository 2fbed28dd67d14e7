-- `order_pasts` meets its contract. Assumes nothing.
use Rattle.std.proofs.Common.{◌∙◌, sym}
use Rattle.history.proofs.PadLaws.{pad-none}
use Rattle.certificate.specs.Record.{no_list}
use Rattle.weakened_records.proofs.records.order_pasts.Goals as goal

pub returns-else-has_pasts : goal.returns-else-has_pasts
returns-else-has_pasts c = rw (sym c.has_pasts.ensures ∙ c.if-has_pasts.false) (c.no_pasts.ensures ∙ sym (pad-none 64 no_list))
