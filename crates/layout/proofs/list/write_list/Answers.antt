-- `write_list` meets its contract: whether the text fits is known before the first byte is written. Assumes nothing.
use Rattle.std.proofs.Common.{sym, ap, ◌∙◌, Some}
use Rattle.std.proofs.lemmas.List.{map-id}
use borrow.Author.Tests.{leb-true, leb-false}
use Rattle.layout.proofs.FillLaws.{written-fits, written-short, after-fits, after-short}
use Rattle.layout.proofs.list.write_list.Goals as goal

pub returns-then-not-list_fits : goal.returns-then-not-list_fits
returns-then-not-list_fits c =
    let h = leb-false _ _ (sym c.if-not-list_fits.ensures) in
    (sym (written-short _ c.args.part.now h), sym (after-short _ c.args.part.now h))

pub returns : goal.returns
returns c =
    let h = leb-true _ _ (sym c.if-not-list_fits.ensures) in
    let p = rw (map-id c.args.items.now) at c.put_list.ensures in
    (ap Some p.0 ∙ sym (written-fits _ c.args.part.now h), p.1 ∙ sym (after-fits _ c.args.part.now h))
