-- `push_item` meets its contract. Assumes nothing.
use Rattle.std.proofs.Common.{arith, sym, ◌∙◌}
use Rattle.layout.proofs.NumberLaws.{value-number}
use Rattle.layout.proofs.list.push_item.Goals as goal

pub overflow_cast-items : goal.overflow_cast-items
overflow_cast-items c =
    omega (arith, value-number c.args.bound c.args.item.now c.in-Ok-Ok.v (sym c.read_number.ensures ∙ c.in-Ok-Ok.is-1))
