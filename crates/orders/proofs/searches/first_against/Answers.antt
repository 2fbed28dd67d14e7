-- The lowest view against the order. Assumes nothing.
use Rattle.std.proofs.Common.{rules, length}
use Rattle.orders.proofs.FindLaws.{lowest-from_find}
use Rattle.orders.proofs.SearchLaws.{inverted}
use Rattle.orders.proofs.searches.first_against.Goals as goal

pub returns-clause-found : goal.returns-clause-found
returns-clause-found c =
    lowest-from_find (inverted c.args.views.now.rows.now c.args.views.now.lengths.now c.args.rows.now) (length c.args.views.now.numbers.now) _ _ _ (rw c.count.ensures at c.find.ensures.ran) (λ x b q k. search rules)
