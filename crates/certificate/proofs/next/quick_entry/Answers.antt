-- `quick_entry` meets its contract: the digits are the spelling of the value. Assumes nothing.
use Rattle.certificate.proofs.NextLaws.{entry-one, entry-two}
use Rattle.certificate.proofs.next.quick_entry.Goals as goal

pub returns-then-not-is_ascii_digit-2 : goal.returns-then-not-is_ascii_digit-2
returns-then-not-is_ascii_digit-2 c =
    let d = c.if-not-is_ascii_digit.ensures.cases in
    entry-one c.args.text.now c.in-len2-up.len_at_least d.0 d.1 _ c.from-first.ensures

pub returns : goal.returns
returns c =
    let d = c.if-not-is_ascii_digit.ensures.cases in
    let e = c.if-not-is_ascii_digit-2.ensures.cases in
    entry-two c.args.text.now c.in-len2-up.len_at_least d.0 d.1 _ c.from-first.ensures e.0 e.1 _ c.from.ensures c.if-first-eq0.false
