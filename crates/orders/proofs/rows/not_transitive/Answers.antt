-- The lowest event that lacks something of its past. Assumes nothing.
use Rattle.std.proofs.Common.{rules}
use Rattle.criteria.specs.Check.{lacks_past}
use Rattle.orders.specs.Rows.{in_rows}
use Rattle.orders.proofs.FindLaws.{lowest-from_find}
use Rattle.orders.proofs.rows.not_transitive.Goals as goal

pub returns-clause-found : goal.returns-clause-found
returns-clause-found c =
    lowest-from_find (lacks_past 64 (in_rows c.args.rows.now)) c.args.n _ _ _ c.find.ensures.ran (λ x b q k. search rules)
