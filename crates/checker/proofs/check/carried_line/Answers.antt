-- `carried_line` meets its contract: the place that an answer has lies within the text that it is in. Assumes nothing.
use Rattle.std.proofs.Common.{ap, ◌∙◌}
use Rattle.checker.specs.CheckText.{Verdict}
use Rattle.checker.proofs.VerdictLaws.{line-begins, line-ends, line-carried, carried_none}
use Rattle.checker.proofs.check.carried_line.Goals as goal

pub returns-in_default : goal.returns-in_default
returns-in_default c =
    carried_none c.args.history.now c.args.text.now (c.in_default.ensures ∙ ap (λ (v : Verdict). v.place) c.check.ensures)

pub slice_bounds-result-count : goal.slice_bounds-result-count
slice_bounds-result-count c =
    line-begins c.args.history.now c.args.text.now c.in-Some.place (c.in-Some.ensures ∙ ap (λ (v : Verdict). v.place) c.check.ensures)

pub slice_bounds-result-start : goal.slice_bounds-result-start
slice_bounds-result-start c =
    line-begins c.args.history.now c.args.text.now c.in-Some.place (c.in-Some.ensures ∙ ap (λ (v : Verdict). v.place) c.check.ensures)

pub slice_bounds-result-end-2 : goal.slice_bounds-result-end-2
slice_bounds-result-end-2 c =
    line-ends c.args.history.now c.args.text.now c.in-Some.place (c.in-Some.ensures ∙ ap (λ (v : Verdict). v.place) c.check.ensures) _
    c.text_named-of.ensures

pub returns : goal.returns
returns c =
    line-carried c.args.history.now c.args.text.now c.in-Some.place (c.in-Some.ensures ∙ ap (λ (v : Verdict). v.place) c.check.ensures) _
    c.text_named-of.ensures
