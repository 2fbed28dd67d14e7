-- `end` meets its contract: no line is left. Assumes nothing.
use mathlib.Core.Path.{sym, ◌∙◌}
use borrow.Author.Rules.{rules}
use Rattle.certificate_reader.proofs.ReadLaws.{end-here, end-bad}
use Rattle.certificate_reader.proofs.left.LinesLeft.end.Goals as goal

pub returns-then-is_empty : goal.returns-then-is_empty
returns-then-is_empty c = λ r. end-here r c.args.self.now.line c.args.self.now.start c.args.self.now.text.now (search rules)

pub returns : goal.returns
returns c = λ r.
    end-bad c.args.self.now.line c.args.self.now.start c.args.self.now.text.now _ c.first_part.ensures
    (search rules) r
    ∙ sym c.refuse.ensures
