-- `heading` meets its contract: a line that is the heading, whatever follows. Assumes nothing.
use mathlib.Core.Path.{sym, ◌∙◌}
use lib.ListN.{length}
use Rattle.certificate_reader.proofs.ReadLaws.{line-cut, heading-cut, heading-is, heading-not}
use Rattle.certificate_reader.proofs.KeepLaws.{behind-say}
use Rattle.certificate_reader.proofs.left.LinesLeft.heading.Goals as goal

pub returns-in_default : goal.returns-in_default
returns-in_default c = λ next. heading-cut c.args.self.now.line c.args.self.now.start c.args.self.now.text.now c.in_default.ensures.1 c.args.heading.now next
    ∙ sym c.refuse.ensures

pub returns-then-not-is_word : goal.returns-then-not-is_word
returns-then-not-is_word c = λ next.
    heading-not c.args.self.now.line c.args.self.now.start c.args.self.now.text.now _ _ c.in-Some.ensures.3 c.args.heading.now next
    (sym c.is_word.ensures ∙ c.if-not-is_word.true)
    ∙ sym c.refuse-then-not-is_word.ensures

pub returns : goal.returns
returns c = λ next.
    heading-is c.args.self.now.line c.args.self.now.start c.args.self.now.text.now _ _ (line-cut c.args.self.now.text.now _ _ c.in-Some.ensures) c.args.heading.now next
    (sym c.is_word.ensures ∙ c.if-not-is_word.false)
    ∙ behind-say next c.args.self.now (length c.in-Some.line.now) c.pass.new.self c.pass.ensures
