-- `read_lines` meets its contract: the criterion, the pasts and the views. Assumes nothing.
use mathlib.Core.Path.{refl, ◌∙◌}
use Rattle.std.proofs.lemmas.Result.{err_from_is_err_and}
use Rattle.certificate_reader.proofs.KeepLaws.{all-done}
use Rattle.certificate_reader.proofs.read.read_lines.Goals as goal

pub returns-in_err-criterion : goal.returns-in_err-criterion
returns-in_err-criterion c =
    let p = err_from_is_err_and c.from_residual.result c.from_residual.ensures.1 in
    rw (p.1, p.2) (c.in_err-criterion.ensures c.args.events.now, refl)

pub returns-in_err-pasts : goal.returns-in_err-pasts
returns-in_err-pasts c =
    let p = err_from_is_err_and c.from_residual-in_err-pasts.result c.from_residual-in_err-pasts.ensures.1 in
    rw (p.1, p.2) (c.in_ok-criterion.ensures c.args.events.now ∙ c.in_err-pasts.ensures, refl)

pub returns-in_err-views : goal.returns-in_err-views
returns-in_err-views c =
    let p = err_from_is_err_and c.from_residual-in_err-views.result c.from_residual-in_err-views.ensures.1 in
    rw (p.1, p.2) (c.in_ok-criterion.ensures c.args.events.now ∙ c.in_ok-pasts.ensures.says ∙ c.in_err-views.ensures c.in_ok-pasts.ensures.pasts, refl)

pub returns : goal.returns
returns c =
    all-done _ c.in_ok-criterion.criterion c.in_ok-pasts.ensures.pasts c.in_ok-views.ensures.views c.in_ok-pasts.pasts c.in_ok-views.views c.put_rows-lengths.result c.put_rows-lengths.new.rows
    (c.in_ok-criterion.ensures c.args.events.now ∙ c.in_ok-pasts.ensures.says ∙ c.in_ok-views.ensures.says c.in_ok-pasts.ensures.pasts)
    c.in_ok-pasts.ensures.kept c.in_ok-views.ensures.kept c.put_rows-lengths.ensures.0 c.put_rows-lengths.ensures.1
