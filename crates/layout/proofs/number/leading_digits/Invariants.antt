-- `leading_digits` meets its contract: the value so far and the digits that are left say what all digits do. Assumes nothing.
use Rattle.std.proofs.Common.{◌≤◌, ◌+◌, ◌*◌}
use Rattle.layout.proofs.NumberLaws.{Reading}
use Rattle.layout.proofs.number.leading_digits.Given as goal

abbrev pub invariant-loop-i : goal.invariant-loop-i
invariant-loop-i l = (l.value ≤ 10 * l.bound + 9) × Reading l.bound l.text l.i l.value
