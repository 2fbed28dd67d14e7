-- The lowest view that is not the past of its event, and that event. Assumes nothing.
use Rattle.std.proofs.Common.{rules, length}
use Rattle.orders.proofs.FindLaws.{lowest-from_find}
use Rattle.orders.proofs.SearchLaws.{not_past, set_same}
use Rattle.orders.proofs.searches.first_not_past.Goals as goal

pub returns-clause-found : goal.returns-clause-found
returns-clause-found c =
    lowest-from_find (not_past c.args.views.now.rows.now c.args.views.now.lengths.now c.args.rows.now) (length c.args.views.now.numbers.now) _ _ _ (rw c.count.ensures at c.find.ensures.ran)
    (λ x b q k. search (rules, set_same))
