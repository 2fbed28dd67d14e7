-- `pasts` meets its contract: the pasts where the criterion has any. Assumes nothing.
use mathlib.Core.Path.{sym, ◌∙◌}
use Rattle.std.proofs.lemmas.Result.{err_from_is_err_and}
use Rattle.certificate.specs.Criteria.{view_numbers}
use Rattle.certificate_reader.proofs.KeepLaws.{pasts-none, pasts-unheaded, pasts-read}
use Rattle.certificate_reader.proofs.left.LinesLeft.pasts.Goals as goal

pub returns-then-not-has_pasts : goal.returns-then-not-has_pasts
returns-then-not-has_pasts c =
    pasts-none c.args.criterion c.args.events.now c.args.self.now (sym c.has_pasts.ensures ∙ c.if-not-has_pasts.true) _ (rw c.no_list.ensures)

pub returns-in_err-heading : goal.returns-in_err-heading
returns-in_err-heading c =
    let p = err_from_is_err_and c.from_residual.result c.from_residual.ensures.1 in
    rw (p.1, p.2)
    (pasts-unheaded c.args.criterion c.args.events.now c.args.self.now (sym c.has_pasts.ensures ∙ c.if-not-has_pasts.false) c.in_err-heading.field-0.0 c.in_err-heading.ensures)

pub returns : goal.returns
unfolding view_numbers
returns c =
    pasts-read c.args.criterion c.args.events.now c.args.self.now (sym c.has_pasts.ensures ∙ c.if-not-has_pasts.false) c.heading.new.self c.in_ok-heading.ensures _
    (c.all.ensures.all _ c.view_numbers-numbers.ensures.0) c.lists.new.self c.lists.result c.lists.ensures
