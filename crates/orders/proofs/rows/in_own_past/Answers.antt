-- The lowest event in its own row. Assumes nothing.
use Rattle.std.proofs.Common.{rules}
use Rattle.orders.specs.Rows.{in_rows}
use Rattle.orders.proofs.FindLaws.{lowest-from_find}
use Rattle.orders.proofs.rows.in_own_past.Goals as goal

pub returns-clause-found : goal.returns-clause-found
returns-clause-found c =
    lowest-from_find (λ e. in_rows c.args.rows.now e e) c.args.n _ _ _ c.find.ensures.ran (λ x b q k. search rules)
