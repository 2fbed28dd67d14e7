-- `views` meets its contract: the views, and nothing behind them. Assumes nothing.
use Rattle.std.proofs.lemmas.Result.{err_from_is_err_and}
use Rattle.certificate_reader.proofs.KeepLaws.{views-unheaded, views-refused, views-followed, views-done}
use Rattle.certificate_reader.proofs.left.LinesLeft.views.Goals as goal

pub returns-in_err-heading : goal.returns-in_err-heading
returns-in_err-heading c =
    let p = err_from_is_err_and c.from_residual.result c.from_residual.ensures.1 in
    rw (p.1, p.2) (views-unheaded c.args.criterion c.args.events.now c.args.self.now c.in_err-heading.field-0.0 c.in_err-heading.ensures)

pub returns-in_err-views : goal.returns-in_err-views
returns-in_err-views c =
    let p = err_from_is_err_and c.from_residual-in_err-views.result c.from_residual-in_err-views.ensures.1 in
    rw (p.1, p.2)
    (views-refused c.args.criterion c.args.events.now c.args.self.now c.heading.new.self c.in_ok-heading.ensures _ (c.all.ensures.all _ c.view_numbers-numbers.ensures.0)
    c.lists.new.self c.in_err-views.field-0.0 c.in_err-views.ensures)

pub returns-in_err-end : goal.returns-in_err-end
returns-in_err-end c =
    let p = err_from_is_err_and c.from_residual-in_err-end.result c.from_residual-in_err-end.ensures.1 in
    rw (p.1, p.2)
    (views-followed c.args.criterion c.args.events.now c.args.self.now c.heading.new.self c.in_ok-heading.ensures _ (c.all.ensures.all _ c.view_numbers-numbers.ensures.0)
    c.lists.new.self c.in_ok-views.views c.in_ok-views.ensures c.in_err-end.field-0.0 c.in_err-end.ensures)

pub returns : goal.returns
returns c =
    views-done c.args.criterion c.args.events.now c.args.self.now c.heading.new.self c.in_ok-heading.ensures _ (c.all.ensures.all _ c.view_numbers-numbers.ensures.0)
    c.lists.new.self c.in_ok-views.views c.in_ok-views.ensures c.in_ok-end.ensures
