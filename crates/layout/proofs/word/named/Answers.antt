-- `named` meets its contract: the first word of the table that the field is has its meaning beside it. Assumes nothing.
use Rattle.std.proofs.Common.{rules, ◌≡◌, true, false}
use Rattle.std.proofs.lemmas.Iterator.{first_from_find, YieldsList-from_slice}
use Rattle.layout.specs.Word.{same}
use Rattle.layout.proofs.TableLaws.{named_found}
use Rattle.layout.proofs.word.named.Goals as goal

pub returns : goal.returns
returns g c =
    named_found c.args.field.now c.args.table.now c.find.result c.map.result
    (first_from_find _ _ c.find.result (λ p. same c.args.field.now p.0.now ≡ true) (λ p. same c.args.field.now p.0.now ≡ false) c.find.ensures.ran
    (YieldsList-from_slice c.args.table.now cc) (λ x q k. search rules) (λ x q k. search rules))
    (λ e. search rules) (λ x e. search rules)
