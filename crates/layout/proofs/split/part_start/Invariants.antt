-- `part_start` meets its contract: the part with the number k is one of those that are left of the rest. Assumes nothing.
use Rattle.std.proofs.Common.{◌≡◌, ◌+◌, ◌-◌, ◌≤◌, [], length, get_or, drop}
use Rattle.layout.specs.Split.{split, part_start}
use Rattle.layout.proofs.split.part_start.Given as goal

abbrev pub invariant-loop : goal.invariant-loop
invariant-loop l =
    (l.start ≤ length l.s) × (get_or (split l.b l.s) l.k [] ≡ get_or (split l.b (drop l.start l.s)) (l.k - l.counter) []) × (part_start l.b l.k l.s ≡ l.start + part_start l.b (l.k - l.counter) (drop l.start l.s))
