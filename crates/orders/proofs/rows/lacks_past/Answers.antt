-- Some event is before e, and one before it that is not before e. Assumes nothing.
use Rattle.std.proofs.Common.{◌∙◌, rules}
use Rattle.orders.proofs.FindLaws.{any-from_any}
use Rattle.orders.proofs.RowLaws.{lacking, lacking-past}
use Rattle.orders.proofs.rows.lacks_past.Goals as goal

pub returns : goal.returns
returns c =
    any-from_any (lacking c.args.rows.now c.args.e) 64 _ _ _ c.any.ensures.ran (λ x b q k. search rules) ∙ lacking-past c.args.rows.now c.args.e
