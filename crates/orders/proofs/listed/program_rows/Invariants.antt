-- `program_rows` meets its contract: the rows so far are those of the first i events, and each process has the row of its events so far.
-- Assumes nothing.
use Rattle.std.proofs.Common.{◌≡◌, length}
use Rattle.orders.specs.Rows.{IsOrder, program_in}
use Rattle.orders.proofs.ProgramLaws.{Earlier}
use Rattle.orders.proofs.listed.program_rows.Given as goal

abbrev pub invariant-loop-i : goal.invariant-loop-i
invariant-loop-i l =
    (length l.rows ≡ 64) × (length l.earlier ≡ 8) × IsOrder l.rows (program_in l.i l.processes) × Earlier l.processes l.i l.earlier
