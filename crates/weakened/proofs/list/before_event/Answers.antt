-- `before_event` meets its contract: where the event stands there. Assumes nothing.
use Rattle.std.proofs.Common.{sym, ◌∙◌}
use Rattle.weakened.proofs.ListLaws.{before_some}
use Rattle.weakened.proofs.list.before_event.Goals as goal

pub returns-in-Some : goal.returns-in-Some
returns-in-Some c =
    before_some c.args.e c.args.view.now c.in-Some.k (sym c.in-Some.is ∙ c.place_of.ensures)
