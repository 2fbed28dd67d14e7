-- `list_fits` meets its contract: the room that is left and the bytes of the items before are all the room. Assumes nothing.
use Rattle.std.proofs.Common.{◌≡◌, ◌+◌, length, drop}
use Rattle.layout.specs.List.{list_text}
use Rattle.layout.specs.Steps.List.{tail_text}
use Rattle.layout.proofs.list.list_fits.Given as goal

abbrev pub invariant-loop-x : goal.invariant-loop-x
invariant-loop-x l = l.room + length (tail_text (drop l.x-index l.others)) ≡ l.left + length (list_text l.items)
