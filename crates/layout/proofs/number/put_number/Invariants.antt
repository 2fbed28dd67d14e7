-- `put_number` meets its contract: it writes the digits from the last one on. Assumes nothing.
use Rattle.std.proofs.Common.{◌≡◌, ◌≤◌, length, drop}
use Rattle.layout.specs.Steps.Number.{last_digits}
use Rattle.layout.proofs.number.put_number.Given as goal

abbrev pub invariant-loop-i : goal.invariant-loop-i
invariant-loop-i l =
    (l.k ≤ length l.part) × (last_digits l.k l.n (drop l.k l.initial.part) ≡ last_digits l.i l.rest (drop l.i l.part))
