-- `put_item` meets its contract: the comma, and the number behind it. Assumes nothing.
use Rattle.std.proofs.Common.{◌∙◌, ◌∷◌, set, arith}
use Rattle.layout.specs.Number.{spell}
use Rattle.layout.proofs.FillLaws.{part_filled, fill_at-set, fill_at-zero}
use Rattle.layout.proofs.list.put_item.Goals as goal

pub returns : goal.returns
returns c = (
  omega (arith, c.put_number.ensures.0),
  part_filled 1 (spell c.args.x) (set c.args.part.now 0 44) c.put_number.new.part c.put_number.ensures.1
      ∙ fill_at-set 0 44 (spell c.args.x) c.args.part.now (omega arith)
      ∙ fill_at-zero (44 ∷ spell c.args.x) c.args.part.now,
)
