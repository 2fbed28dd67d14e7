-- `updates_of` meets its contract: the row so far is that of the first i events. Assumes nothing.
use Rattle.one_line.proofs.UpdateLaws.{row-none}
use Rattle.one_line.proofs.updates.updates_of.Goals as goal

pub loop-i-init : goal.loop-i-init
loop-i-init c = row-none _
