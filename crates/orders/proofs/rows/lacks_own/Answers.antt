-- The lowest event whose row lacks something of the other order's row. Assumes nothing.
use Rattle.std.proofs.Common.{rules}
use Rattle.orders.proofs.FindLaws.{lowest-from_find}
use Rattle.orders.proofs.RowLaws.{lacks}
use Rattle.orders.proofs.rows.lacks_own.Goals as goal

pub returns-clause-found : goal.returns-clause-found
returns-clause-found c =
    lowest-from_find (lacks c.args.rows.now c.args.must.now) c.args.n _ _ _ c.find.ensures.ran (λ x b q k. search rules)
