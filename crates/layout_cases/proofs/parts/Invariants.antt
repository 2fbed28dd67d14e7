-- `parts` meets its contract: the lengths that are left end where all of them end. Assumes nothing.
use Rattle.std.proofs.Common.{◌≤◌}
use Rattle.layout_cases.proofs.parts.Given as goal

abbrev pub invariant-loop-n : goal.invariant-loop-n
invariant-loop-n g l = l.n-iterator.end ≤ 8191
