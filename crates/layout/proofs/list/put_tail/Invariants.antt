-- `put_tail` meets its contract: the text of the items left, written behind what is there, completes the whole. Assumes nothing.
use Rattle.std.proofs.Common.{map, drop}
use Rattle.layout.specs.Steps.List.{tail_text}
use Rattle.layout.proofs.FillLaws.{Writing}
use Rattle.layout.proofs.list.put_tail.Given as goal

abbrev pub invariant-loop-item : goal.invariant-loop-item
invariant-loop-item g l =
    Writing (tail_text (map g.T.Item.number l.items)) l.initial.part (tail_text (drop l.item-index (map g.T.Item.number l.items))) l.part l.at
