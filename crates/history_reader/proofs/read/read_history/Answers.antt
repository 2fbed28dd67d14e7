-- `read_history` meets its contract: a text that is too long is refused first. Assumes nothing.
use native.Mathlib.Omega.{arith}
use mathlib.Core.Path.{sym, ◌∙◌}
use Rattle.history_reader.proofs.ReadLaws.{history-lines, history-long}
use Rattle.history_reader.proofs.read.read_history.Goals as goal

pub returns-then-text-gt-LONGEST : goal.returns-then-text-gt-LONGEST
returns-then-text-gt-LONGEST c = c.refuse.ensures ∙ sym (history-long c.args.text.now (omega arith))

pub returns : goal.returns
returns c = c.read_lines.ensures ∙ sym (history-lines c.args.text.now (omega arith))
