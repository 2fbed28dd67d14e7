-- Event k decides the view that goes on to it, and an event whose answer alone is visible decides its view.
use Rattle.std.proofs.Common.{◌∙◌, sym}
use borrow.Author.Tests.{ltb-true}
use Rattle.replayed_views.proofs.DecidingLaws.{decides-only, decides-on, match-then}
use Rattle.replayed_views.proofs.deciding.deciding.Goals as goal

pub returns-in-Of : goal.returns-in-Of
returns-in-Of c =
    rw c.in-Of.is (
      c.if-k-history.true,
      decides-on c.args.history.now c.args.before.seen c.in-Of.p c.args.before.view.events.now c.args.this.view.events.now c.args.k c.requires.2 c.if-k-history.true
          (sym c.shows.ensures ∙ c.if-shows.true) (c.goes_on.ensures c.if-goes_on.true),
    )

pub returns-in-Only : goal.returns-in-Only
returns-in-Only c =
    rw c.in-Only.is (match-then _ _ _ c.then_some.ensures
    (λ t. (rw c.from.ensures at (ltb-true _ _ t), decides-only c.args.history.now c.args.before.seen c.args.before.view.events.now c.in-Only.e c.args.this.view.events.now)))
