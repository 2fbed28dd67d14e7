-- `number_before_space` meets its contract: a space stands behind the digits. Assumes nothing.
use Rattle.std.proofs.Common.{◌∷◌, [], ◌+◌, sym, ◌∙◌}
use Rattle.layout.proofs.FillLaws.{tail-part}
use Rattle.layout.proofs.LeadingLaws.{spaced-none, spaced-not, spaced-is}
use Rattle.layout.proofs.StandsLaws.{word_fits}
use Rattle.layout.proofs.number.number_before_space.Goals as goal

pub returns-in_err-number : goal.returns-in_err-number
returns-in_err-number c = rw c.from_residual.ensures (spaced-none _ _ c.in_err-number.ensures)

pub returns-then-not-stands_at : goal.returns-then-not-stands_at
returns-then-not-stands_at c =
    spaced-not c.args.bound c.args.text.now _ _ c.in_ok-number.ensures.0 (sym c.stands_at.ensures ∙ c.if-not-stands_at.true)

pub slice_bounds-result-count : goal.slice_bounds-result-count
slice_bounds-result-count c =
    word_fits c.args.text.now (32 ∷ []) c.in_ok-number.n c.in_ok-number.ensures.2 (sym c.stands_at.ensures ∙ c.if-not-stands_at.false)

pub slice_bounds-result-start : goal.slice_bounds-result-start
slice_bounds-result-start c =
    word_fits c.args.text.now (32 ∷ []) c.in_ok-number.n c.in_ok-number.ensures.2 (sym c.stands_at.ensures ∙ c.if-not-stands_at.false)

pub returns : goal.returns
returns c = (
  spaced-is c.args.bound c.args.text.now _ _ c.in_ok-number.ensures.0 (sym c.stands_at.ensures ∙ c.if-not-stands_at.false) ∙ rw (tail-part c.args.text.now (c.in_ok-number.n + 1)),
  c.in_ok-number.ensures.1,
)
