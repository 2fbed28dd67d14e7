-- The lowest view that is not all events. Assumes nothing.
use Rattle.std.proofs.Common.{rules, length}
use Rattle.orders.proofs.FindLaws.{lowest-from_find}
use Rattle.orders.proofs.SearchLaws.{not_all, set_same}
use Rattle.orders.proofs.searches.first_not_all.Goals as goal

pub returns-clause-found : goal.returns-clause-found
returns-clause-found c =
    lowest-from_find (not_all c.args.views.now.rows.now c.args.views.now.lengths.now c.args.n) (length c.args.views.now.numbers.now) _ _ _ (rw c.count.ensures at c.find.ensures.ran) (λ x b q k. search (rules, set_same))
