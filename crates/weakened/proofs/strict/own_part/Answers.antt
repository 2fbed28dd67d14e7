-- `own_part` meets its contract. Assumes nothing.
use Rattle.std.proofs.Common.{arith, sym, ap, ◌∙◌, ℕ, List}
use Rattle.certificate.specs.Record.{event_list_of}
use Rattle.criteria.specs.Weaken.{up_to_in}
use Rattle.orders.specs.Rows.{view_at}
use Rattle.weakened.proofs.ListLaws.{place-some, place-none}
use Rattle.weakened.proofs.strict.own_part.Goals as goal

pub returns-in-Some : goal.returns-in-Some
returns-in-Some c =
    let at = (place-some c.args.p c.args.views.now.numbers.now c.in-Some.at (sym c.in-Some.is ∙ c.place_of.ensures)).0 in (
      c.list_of.ensures.0
          ∙ ap event_list_of
          (c.up_to_event.ensures.0
          ∙ ap (λ (v : List ℕ). up_to_in v c.args.e) (c.get.ensures ∙ ap (view_at c.args.views.now.rows.now c.args.views.now.lengths.now) at)),
      c.list_of.ensures.1,
    )

pub returns-in-None : goal.returns-in-None
returns-in-None c =
    let none = place-none c.args.p c.args.views.now.numbers.now (sym c.in-None.is ∙ c.place_of.ensures) in
    absurd (omega (arith, none, c.requires))
