-- `list_len` meets its contract: the bytes counted and those of the items left are all bytes of the items, each with a comma.
-- Assumes nothing.
use Rattle.std.proofs.Common.{◌≡◌, ◌<◌, arith, sym, ap, map, length}
use Rattle.std.proofs.lemmas.List.{length-map}
use Rattle.std.proofs.lemmas.Grind.{common_steps}
use Rattle.layout.proofs.ListTextLaws.{items-empty, item-long, items-end, tail-list}
use Rattle.layout.proofs.list.list_len.Goals as goal

pub returns-then-is_empty : goal.returns-then-is_empty
returns-then-is_empty g c =
    let z : length c.args.items.now ≡ 0 = grind (arith, common_steps) in
    (sym (ap length (items-empty g.T.Item.number c.args.items.now z)), omega arith)

pub loop-x-preserved : goal.loop-x-preserved
loop-x-preserved g c =
    let long = item-long g.T.Item.number c.args.items.now c.loop-x.x-index c.loop-x-test.true c.x-item.result c.x-item.is c.number.result c.number.ensures in
    omega (arith, c.number_len.ensures.0, c.number_len.ensures.1, long)

pub returns : goal.returns
returns g c =
    let z : 0 < length c.args.items.now = grind (arith, common_steps) in
    let n = length-map c.args.items.now g.T.Item.number in
    let end = items-end g.T.Item.number c.args.items.now c.loop-x.x-index c.loop-x-test.false in
    omega (arith, ap length end, ap length (tail-list (map g.T.Item.number c.args.items.now) (omega (arith, z, n))))
