-- `put_list` meets its contract: `-` for the empty list, and else the first number, and the others behind it. Assumes nothing.
use Rattle.std.proofs.Common.{ℕ, List, arith, sym, ap, ◌∙◌, length}
use Rattle.layout.specs.Fill.{fill}
use Rattle.layout.proofs.ListTextLaws.{items-empty, items-rest, items_at, items_begun}
use Rattle.layout.proofs.FillLaws.{first-room, writing-from, last-room, last_sum, last-length, last-part}
use Rattle.layout.proofs.list.put_list.Goals as goal

pub put_bytes-requires : goal.put_bytes-requires
put_bytes-requires g c = omega (arith, ap length (items-empty g.T.Item.number c.args.items.now (omega arith)))

pub returns-in_default : goal.returns-in_default
returns-in_default g c =
    let e = sym (items-empty g.T.Item.number c.args.items.now (omega arith)) in
    (c.put_bytes.ensures.0 ∙ ap length e, c.put_bytes.ensures.1 ∙ ap (λ (t : List ℕ). fill t c.args.part.now) e)

pub put_number-k-requires : goal.put_number-k-requires
put_number-k-requires g c =
    first-room _ c.args.part.now _ _ c.requires
    (items_at g.T.Item.number c.args.items.now (omega arith) c.first-item.result c.first-item.is c.number.result c.number.ensures)

pub slice_bounds-put_tail-count : goal.slice_bounds-put_tail-count
slice_bounds-put_tail-count g c =
    let begun = items_begun g.T.Item.number c.args.items.now (omega arith) c.first-item.result c.first-item.is c.number.result c.number.ensures c.args.part.now c.requires _ _ c.put_number-k.ensures.0 c.put_number-k.ensures.1 in
    writing-from begun

pub slice_bounds-put_tail-start : goal.slice_bounds-put_tail-start
slice_bounds-put_tail-start g c =
    let begun = items_begun g.T.Item.number c.args.items.now (omega arith) c.first-item.result c.first-item.is c.number.result c.number.ensures c.args.part.now c.requires _ _ c.put_number-k.ensures.0 c.put_number-k.ensures.1 in
    writing-from begun

pub put_tail-requires : goal.put_tail-requires
put_tail-requires g c =
    let begun = items_begun g.T.Item.number c.args.items.now (omega arith) c.first-item.result c.first-item.is c.number.result c.number.ensures c.args.part.now c.requires _ _ c.put_number-k.ensures.0 c.put_number-k.ensures.1 in
    rw (items-rest g.T.Item.number c.args.items.now) (last-room begun)

pub overflow_add-result : goal.overflow_add-result
overflow_add-result g c =
    let begun = items_begun g.T.Item.number c.args.items.now (omega arith) c.first-item.result c.first-item.is c.number.result c.number.ensures c.args.part.now c.requires _ _ c.put_number-k.ensures.0 c.put_number-k.ensures.1 in
    let rest = items-rest g.T.Item.number c.args.items.now in
    omega (arith, rw rest at c.put_tail.ensures.0, last_sum begun)

pub shape_of-part : goal.shape_of-part
shape_of-part g c =
    let begun = items_begun g.T.Item.number c.args.items.now (omega arith) c.first-item.result c.first-item.is c.number.result c.number.ensures c.args.part.now c.requires _ _ c.put_number-k.ensures.0 c.put_number-k.ensures.1 in
    let rest = items-rest g.T.Item.number c.args.items.now in
    last-length begun c.put_tail.new.part (rw rest at c.put_tail.ensures.1)

pub returns : goal.returns
returns g c =
    let begun = items_begun g.T.Item.number c.args.items.now (omega arith) c.first-item.result c.first-item.is c.number.result c.number.ensures c.args.part.now c.requires _ _ c.put_number-k.ensures.0 c.put_number-k.ensures.1 in
    let rest = items-rest g.T.Item.number c.args.items.now in
    last-part begun c.put_tail.new.part (rw rest at c.put_tail.ensures.1) c.put_tail.result (rw rest at c.put_tail.ensures.0)
