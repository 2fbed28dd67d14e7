-- `read_lines` meets its contract: the first line is the heading of the objects. Assumes nothing.
use mathlib.Core.Path.{sym, ◌∙◌}
use Rattle.std.proofs.lemmas.Result.{err_from_is_err_and}
use Rattle.history_reader.proofs.ReadLaws.{lines_end, lines-heading, lines-bad, first-rest}
use Rattle.history_reader.proofs.read.read_lines.Goals as goal

pub returns-in_default : goal.returns-in_default
returns-in_default c = c.refuse.ensures ∙ sym (lines_end c.args.text.now c.in_default.ensures.1)

pub returns-then-not-is_word : goal.returns-then-not-is_word
returns-then-not-is_word c =
    let h = c.in-Some.ensures in
    c.refuse-then-not-is_word.ensures ∙ sym (lines-bad c.args.text.now _ _ h.3 (sym c.is_word.ensures ∙ c.if-not-is_word.true))

pub returns-in_err-declared : goal.returns-in_err-declared
returns-in_err-declared c =
    let h = c.in-Some.ensures in
    let n = first-rest c.args.text.now _ h.0 h.1 in
    let p = err_from_is_err_and c.from_residual.result c.from_residual.ensures.1 in
    rw (p.1, p.2)
    (sym (lines-heading c.args.text.now _ _ h.3 (sym c.is_word.ensures ∙ c.if-not-is_word.false) ∙ rw (h.2, n) c.in_err-declared.ensures))

pub returns : goal.returns
returns c =
    let h = c.in-Some.ensures in
    let n = first-rest c.args.text.now _ h.0 h.1 in
    c.read_events.ensures
    ∙ sym (lines-heading c.args.text.now _ _ h.3 (sym c.is_word.ensures ∙ c.if-not-is_word.false) ∙ rw (h.2, n) c.in_ok-declared.ensures.says)
