-- A write puts the number behind the newest, and keeps the last ones where the object held as many as it can. Assumes nothing.
use mathlib.Core.Path.{sym, ◌∙◌}
use borrow.Author.Rules.{rules}
use Rattle.objects.proofs.StateLaws.{write-drops, write-adds}
use Rattle.objects.proofs.state.State.written.Goals as goal

pub returns-then-not-full : goal.returns-then-not-full
returns-then-not-full c =
    rw c.from.ensures (write-adds c.args.self (search rules) c.requires _ (sym c.is_full-full.ensures ∙ c.if-not-full.true))

pub returns : goal.returns
returns c =
    rw c.from.ensures (write-drops c.args.self (search rules) c.requires _ (sym c.is_full-full.ensures ∙ c.if-not-full.false))
