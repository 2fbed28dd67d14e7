-- `make` meets its contract: a reading refusal, or what is made of the records. Assumes nothing.
use Rattle.std.proofs.Common.{refl}
use Rattle.std.proofs.lemmas.Result.{err_from_is_err_and}
use Rattle.checker.proofs.VerdictLaws.{limits-read}
use Rattle.weakener.proofs.TextLaws.{texts-refused, texts-none, texts-read}
use Rattle.weakener.proofs.made.make.Goals as goal

pub make_record-requires : goal.make_record-requires
make_record-requires c =
    limits-read c.args.history.now c.args.text.now _ c.in_ok-read.ensures.0 refl _ c.in_ok-read.ensures.1

pub returns-in_default : goal.returns-in_default
returns-in_default c =
    texts-none c.args.wanted c.args.history.now c.args.text.now c.args.buffer.now _ c.in_ok-read.ensures.0 refl _ c.in_ok-read.ensures.1
    c.in_default.is

pub returns : goal.returns
returns c =
    texts-read c.args.wanted c.args.history.now c.args.text.now c.args.buffer.now _ c.in_ok-read.ensures.0 refl _ c.in_ok-read.ensures.1
    c.in-Some.wanted c.in-Some.is c.make_record.result _ c.make_record.ensures

pub returns-in_err-read : goal.returns-in_err-read
returns-in_err-read c =
    let p = err_from_is_err_and c.from_residual.result c.from_residual.ensures.1 in
    rw (p.1, p.2) (texts-refused c.args.wanted c.args.history.now c.args.text.now c.args.buffer.now _ c.in_err-read.ensures.0)
