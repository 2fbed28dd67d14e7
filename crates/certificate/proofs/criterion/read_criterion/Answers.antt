-- `read_criterion` meets its contract: the line begins with the heading and a space, or it does not. Assumes nothing.
use mathlib.Core.Path.{◌∙◌}
use mathlib.Core.List.{[], ◌∷◌, ◌++◌}
use Rattle.std.specs.Prelude.{Some, None}
use Rattle.std.proofs.lemmas.Bool.Decides.{Decides-eqb}
use Rattle.std.proofs.lemmas.Slice.Eq.{strip_prefix_is}
use Rattle.layout.specs.Word.{criterion_word}
use Rattle.certificate.proofs.CriterionLaws.{line_other, line_word}
use Rattle.certificate.proofs.criterion.read_criterion.Goals as goal

pub returns-in_err-strip_prefix : goal.returns-in_err-strip_prefix
returns-in_err-strip_prefix c =
    c.from_residual.ensures ∙ line_other c.args.line.now (strip_prefix_is Decides-eqb c.args.line.now (criterion_word ++ 32 ∷ []) None c.in_err-strip_prefix.ensures.cases)

pub returns : goal.returns
returns c =
    c.read_word.ensures
    ∙ line_word c.args.line.now _ (strip_prefix_is Decides-eqb c.args.line.now (criterion_word ++ 32 ∷ []) (Some c.in_ok-strip_prefix.field-0) c.in_ok-strip_prefix.ensures.cases)
