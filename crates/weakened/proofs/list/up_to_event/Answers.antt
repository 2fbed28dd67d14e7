-- `up_to_event` meets its contract: where the event stands there. Assumes nothing.
-- Kept: as that of `before_event`: tried with `using(..)` of this law as of `up_to_none`, and the search does not find it.
use Rattle.std.proofs.Common.{sym, ◌∙◌}
use Rattle.weakened.proofs.ListLaws.{up_to_some}
use Rattle.weakened.proofs.list.up_to_event.Goals as goal

pub returns-in-Some : goal.returns-in-Some
returns-in-Some c =
    up_to_some c.args.e c.args.view.now c.in-Some.k (sym c.in-Some.is ∙ c.place_of.ensures)
