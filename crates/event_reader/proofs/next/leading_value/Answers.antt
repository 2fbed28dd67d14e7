-- `leading_value` meets its contract: a number where the op takes one, and else `-`. Assumes nothing.
use mathlib.Core.Path.{refl, sym, ◌∙◌}
use mathlib.Core.List.{[], ◌∷◌}
use borrow.Author.Tests.{lt-ltb}
use Rattle.std.specs.Prelude.{Some}
use Rattle.std.proofs.lemmas.Bool.Decides.{Decides-eqb}
use Rattle.std.proofs.lemmas.Slice.Eq.{strip_prefix_is}
use Rattle.layout.proofs.LeadingLaws.{spaced_leads}
use Rattle.history.specs.Readable.{good_value}
use Rattle.event_reader.proofs.next.leading_value.Goals as goal

pub returns-then-takes_value : goal.returns-then-takes_value
unfolding good_value
returns-then-takes_value c =
    let n = spaced_leads _ c.args.text.now _ _ c.in_ok-number.ensures.0 in
    rw (sym c.takes_value.ensures ∙ c.if-takes_value.true) (lt-ltb _ _ n.1, n.0)

pub returns : goal.returns
unfolding good_value
returns c =
    rw (sym c.takes_value.ensures ∙ c.if-takes_value.false) (refl, strip_prefix_is Decides-eqb c.args.text.now (45 ∷ 32 ∷ []) (Some c.in_ok-rest.rest) c.in_ok-rest.ensures.cases)
