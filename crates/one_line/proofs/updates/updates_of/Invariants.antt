-- `updates_of` meets its contract: the row so far is that of the first i events. Assumes nothing.
use Rattle.one_line.specs.Steps.{update_in}
use Rattle.one_line.proofs.UpdateLaws.{RowOf}
use Rattle.one_line.proofs.updates.updates_of.Given as goal

abbrev pub invariant-loop-i : goal.invariant-loop-i
invariant-loop-i l = RowOf l.row l.i (update_in l.events)
