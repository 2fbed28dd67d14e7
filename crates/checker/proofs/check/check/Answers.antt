-- `check` meets its contract: a reading refusal, or what is found of the records that were read. Assumes nothing.
use Rattle.std.proofs.Common.{refl, ◌∙◌}
use Rattle.std.proofs.lemmas.Result.{err_from_is_err_and}
use Rattle.checker.proofs.VerdictLaws.{refused-answer, limits-read, checked-read}
use Rattle.checker.proofs.check.check.Goals as goal

pub returns-in_err-read : goal.returns-in_err-read
returns-in_err-read c =
    let p = err_from_is_err_and c.from_residual.result c.from_residual.ensures.1 in
    rw (p.1, p.2) (refused-answer c.args.history.now c.args.text.now _ c.in_err-read.ensures.0)

pub checked_texts-requires : goal.checked_texts-requires
checked_texts-requires c =
    limits-read c.args.history.now c.args.text.now _ c.in_ok-read.ensures.0 refl _ c.in_ok-read.ensures.1

pub returns : goal.returns
returns c =
    c.checked_texts.ensures ∙ checked-read c.args.history.now c.args.text.now _ c.in_ok-read.ensures.0 refl _ c.in_ok-read.ensures.1
