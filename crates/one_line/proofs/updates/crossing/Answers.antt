-- Some event is an update, and unordered to another one. Assumes nothing.
use Rattle.std.proofs.Common.{rules}
use Rattle.orders.proofs.FindLaws.{any-from_any}
use Rattle.one_line.specs.Steps.{crosses_at}
use Rattle.one_line.proofs.updates.crossing.Goals as goal

pub returns : goal.returns
returns c =
    any-from_any (crosses_at c.args.order.now.pasts c.args.order.now.updates c.args.order.now.size) c.args.order.now.size _ _ _ c.any.ensures.ran (λ x b q k. search rules)
