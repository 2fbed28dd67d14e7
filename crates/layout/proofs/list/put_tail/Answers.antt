-- `put_tail` meets its contract: the text of the items left, written behind what is there, completes the whole. That the item is the
-- one at its place, and that none is left at the end, are facts of their own, as an edit that leaves the last out must be refused for
-- the second. Assumes nothing.
use Rattle.std.proofs.Common.{arith, ◌∷◌, ◌<◌, ◌≤◌, ◌≡◌, length, get_or}
use Rattle.std.proofs.lemmas.Grind.{common_steps}
use Rattle.layout.specs.Number.{spell}
use Rattle.layout.proofs.ListTextLaws.{item_at, items-end}
use Rattle.layout.proofs.FillLaws.{writing_begins, writing-room, writing-sum, writing-part, writing-ends}
use Rattle.layout.proofs.list.put_tail.Goals as goal

pub loop-item-init : goal.loop-item-init
loop-item-init g c = writing_begins _ _ c.requires

pub put_item-at-requires : goal.put_item-at-requires
put_item-at-requires g c =
    let here : c.loop-item.item-index < length c.args.items.now = grind (arith, common_steps) in
    let is : c.item-item.result ≡ get_or c.args.items.now c.loop-item.item-index c.item-item.result = grind (arith, common_steps) in
    let next = item_at g.T.Item.number c.args.items.now c.loop-item.item-index here c.item-item.result is c.number.result c.number.ensures in
    writing-room c.loop-item.invariant (44 ∷ spell c.number.result) _ next

pub overflow_add-at : goal.overflow_add-at
overflow_add-at g c =
    let here : c.loop-item.item-index < length c.args.items.now = grind (arith, common_steps) in
    let is : c.item-item.result ≡ get_or c.args.items.now c.loop-item.item-index c.item-item.result = grind (arith, common_steps) in
    let next = item_at g.T.Item.number c.args.items.now c.loop-item.item-index here c.item-item.result is c.number.result c.number.ensures in
    omega (arith, c.put_item-at.ensures.0, writing-sum c.loop-item.invariant (44 ∷ spell c.number.result) _ next)

pub loop-item-preserved : goal.loop-item-preserved
loop-item-preserved g c =
    let here : c.loop-item.item-index < length c.args.items.now = grind (arith, common_steps) in
    let is : c.item-item.result ≡ get_or c.args.items.now c.loop-item.item-index c.item-item.result = grind (arith, common_steps) in
    let next = item_at g.T.Item.number c.args.items.now c.loop-item.item-index here c.item-item.result is c.number.result c.number.ensures in
    writing-part c.loop-item.invariant (44 ∷ spell c.number.result) _ next c.put_item-at.result c.put_item-at.new.part c.put_item-at.ensures.0 c.put_item-at.ensures.1

pub returns : goal.returns
returns g c =
    let all : length c.args.items.now ≤ c.loop-item.item-index = grind (arith, common_steps) in
    writing-ends c.loop-item.invariant (items-end g.T.Item.number c.args.items.now c.loop-item.item-index all)
