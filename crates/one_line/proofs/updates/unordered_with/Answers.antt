-- Some event is an update, another than a, and unordered to it. Assumes nothing.
use Rattle.std.proofs.Common.{rules}
use Rattle.orders.proofs.FindLaws.{any-from_any}
use Rattle.one_line.specs.Steps.{unordered_to}
use Rattle.one_line.proofs.updates.unordered_with.Goals as goal

pub returns : goal.returns
returns c =
    any-from_any (unordered_to c.args.order.now.pasts c.args.order.now.updates c.args.a) c.args.order.now.size _ _ _ c.any.ensures.ran (λ x b q k. search rules)
