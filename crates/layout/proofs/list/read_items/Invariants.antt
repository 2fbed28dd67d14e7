-- `read_items` meets its contract: the items left, from the answer so far, give the whole answer. Assumes nothing.
use Rattle.std.proofs.Common.{◌≡◌, length, drop, Ok}
use Rattle.layout.specs.Split.{split}
use Rattle.layout.specs.Steps.List.{answer_from, places_from}
use Rattle.layout.proofs.list.read_items.Given as goal

abbrev pub invariant-loop-item : goal.invariant-loop-item
invariant-loop-item l =
    let max = length l.initial.items in
    let left = drop (length l.yielded) (split 44 l.field) in
    (answer_from l.bound max (Ok 0) (split 44 l.field) ≡ answer_from l.bound max l.so_far left) × (places_from l.bound max (Ok 0) (split 44 l.field) l.initial.items ≡ places_from l.bound max l.so_far left l.items)
