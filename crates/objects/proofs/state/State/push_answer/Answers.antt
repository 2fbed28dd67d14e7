-- A push answers its value where the object holds as many as it can. Assumes nothing.
use mathlib.Core.Path.{sym, ◌∙◌}
use mathlib.Core.Bool.{true, false}
use borrow.Author.Rules.{rules}
use Rattle.objects.proofs.StateLaws.{push-answers}
use Rattle.objects.proofs.state.State.push_answer.Goals as goal

pub returns-then-is_full : goal.returns-then-is_full
returns-then-is_full c =
    push-answers c.args.self.now c.one.result c.args.no.0 true (search rules)
    (sym c.is_full.ensures ∙ c.if-is_full.true) c.one.ensures

pub returns-else-is_full : goal.returns-else-is_full
returns-else-is_full c =
    push-answers c.args.self.now c.none.result c.args.no.0 false (search rules)
    (sym c.is_full.ensures ∙ c.if-is_full.false) c.none.ensures
