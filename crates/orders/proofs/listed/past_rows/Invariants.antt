-- `past_rows` meets its contract: the rows so far are the order of the first i pasts. Assumes nothing.
use Rattle.std.proofs.Common.{◌≡◌, length, map, take}
use Rattle.certificate.specs.Record.{entries_in}
use Rattle.criteria.specs.Certificate.{listed}
use Rattle.orders.specs.Rows.{IsOrder}
use Rattle.orders.proofs.listed.past_rows.Given as goal

abbrev pub invariant-loop-i : goal.invariant-loop-i
invariant-loop-i l = (length l.rows ≡ 64) × IsOrder l.rows (listed (map entries_in (take l.i l.pasts)))
