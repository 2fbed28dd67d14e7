-- `quick_list` meets its contract: the list is empty, or its entries are read. Assumes nothing.
use mathlib.Core.List.{[], ◌∷◌}
use Rattle.std.specs.Prelude.{Some}
use Rattle.std.proofs.lemmas.Bool.Decides.{Decides-eqb}
use Rattle.std.proofs.lemmas.Slice.Eq.{strip_prefix_is}
use Rattle.certificate.proofs.NextLaws.{empty-list}
use Rattle.certificate.proofs.next.quick_list.Goals as goal

pub returns-in-Some : goal.returns-in-Some
returns-in-Some c =
    rw c.no_list.ensures
    (empty-list _ _ _ _ (strip_prefix_is Decides-eqb c.args.text.now (45 ∷ 10 ∷ []) (Some c.in-Some.rest) c.in-Some.ensures.cases))
