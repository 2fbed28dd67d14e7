-- A push puts the number behind the newest, unless the object holds as many as it can. Assumes nothing.
use mathlib.Core.Path.{sym, ◌∙◌}
use borrow.Author.Rules.{rules}
use Rattle.objects.proofs.StateLaws.{push-full, push-changes}
use Rattle.objects.proofs.state.State.pushed.Goals as goal

pub returns-then-is_full : goal.returns-then-is_full
returns-then-is_full c =
    push-full c.args.self (search rules) c.requires _ (sym c.is_full.ensures ∙ c.if-is_full.true)

pub returns : goal.returns
returns c =
    rw c.from.ensures (push-changes c.args.self (search rules) c.requires _ (sym c.is_full.ensures ∙ c.if-is_full.false))
