-- The row of the first n events: it is that of the first i so far. Assumes nothing.
use Rattle.orders.proofs.SearchLaws.{first-none}
use Rattle.orders.proofs.searches.all_row.Goals as goal

pub loop-i-init : goal.loop-i-init
loop-i-init c = first-none
