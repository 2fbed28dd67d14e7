-- `list_len` meets its contract: the bytes counted and those of the items left are all bytes of the items, each with a comma.
-- Assumes nothing.
use Rattle.std.proofs.Common.{◌≡◌, ◌+◌, ◌*◌, ◌≤◌, map, length, drop}
use Rattle.layout.specs.Steps.List.{tail_text}
use Rattle.layout.proofs.list.list_len.Given as goal

abbrev pub invariant-loop-x : goal.invariant-loop-x
invariant-loop-x g l =
    (l.total ≤ 11 * l.x-index)
    × (l.x-index ≤ l.total)
    × (l.total + length (tail_text (drop l.x-index (map g.T.Item.number l.items))) ≡ length (tail_text (map g.T.Item.number l.items)))
