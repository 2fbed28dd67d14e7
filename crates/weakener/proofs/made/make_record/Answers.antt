-- `make_record` meets its contract: 17, what the check finds, 26, 18, or the text. Assumes nothing.
use Rattle.std.proofs.Common.{◌≡◌, rules}
use Rattle.std.proofs.lemmas.Result.{err_from_is_err_and}
use Rattle.history.proofs.WithinLaws.{within-limits}
use Rattle.history_reader.proofs.ReadLaws.{kept, failed}
use Rattle.weakener.specs.declared.made.Unmade.TheVariants.{TooShort}
use Rattle.weakener.proofs.MadeLaws.{makeable, refused-record, faulty-record, order-read, crossed-record, made-record, short-record}
use Rattle.weakener.proofs.made.make_record.Goals as goal

pub returns-then-not-may_be_made : goal.returns-then-not-may_be_made
returns-then-not-may_be_made c = refused-record _ _ _ _ _ _ c.if-not-may_be_made.ensures

pub map_err-requires : goal.map_err-requires
map_err-requires c =
    let few = (within-limits c.args.h.now c.requires.0).declared in
    search rules

pub returns-in_err-map_err : goal.returns-in_err-map_err
returns-in_err-map_err c =
    let p = err_from_is_err_and c.from_residual.result c.from_residual.ensures.1 in
    let f = failed c.check_records.result c.map_err.result _ c.in_err-map_err.field-0.0 c.map_err.ensures.cases c.in_err-map_err.was in
    let learnt = f.1.1 in
    rw (p.1, p.2)
    (faulty-record _ _ _ _ _ _ c.if-not-may_be_made.ensures f.0 (rw f.1.0 at c.check_records.ensures) c.in_err-map_err.field-0.0 (search rules))

pub crosses_wanted-requires : goal.crosses_wanted-requires
crosses_wanted-requires c =
    order-read (makeable c.requires c.if-not-may_be_made.ensures _ _ _ c.check_records.ensures c.map_err.ensures.cases c.in_ok-map_err.was)

pub returns-then-crosses_wanted : goal.returns-then-crosses_wanted
returns-then-crosses_wanted c =
    crossed-record _ _ _ _ _ _ (makeable c.requires c.if-not-may_be_made.ensures _ _ _ c.check_records.ensures c.map_err.ensures.cases c.in_ok-map_err.was)
    (c.if-crosses_wanted.ensures c.args.of.now.views)

pub record_wanted-made-requires : goal.record_wanted-made-requires
record_wanted-made-requires c =
    let m = makeable c.requires c.if-not-may_be_made.ensures _ _ _ c.check_records.ensures c.map_err.ensures.cases c.in_ok-map_err.was in
    (m.passed, order-read m)

pub returns : goal.returns
returns c =
    let k = kept c.write_certificate.result c.map_err-2.result _ c.in_ok-length.length c.map_err-2.ensures.cases c.in_ok-length.was in
    made-record _ _ _ _ _ _ (makeable c.requires c.if-not-may_be_made.ensures _ _ _ c.check_records.ensures c.map_err.ensures.cases c.in_ok-map_err.was)
    (c.if-crosses_wanted.ensures c.args.of.now.views) _ _ c.record_wanted-made.ensures _ c.write_certificate.ensures.1
    c.in_ok-length.length (rw k at c.write_certificate.ensures.0)

pub returns-in_err-length : goal.returns-in_err-length
returns-in_err-length c =
    let p = err_from_is_err_and c.from_residual-in_err-length.result c.from_residual-in_err-length.ensures.1 in
    let f = failed c.write_certificate.result c.map_err-2.result _ c.in_err-length.field-0.0 c.map_err-2.ensures.cases c.in_err-length.was in
    let learnt = f.1.1 in
    let is : c.in_err-length.field-0.0 ≡ TooShort c.args.of.now.certificate.criterion = search rules in
    rw (p.1, p.2, is)
    (short-record _ _ _ _ _ _ (makeable c.requires c.if-not-may_be_made.ensures _ _ _ c.check_records.ensures c.map_err.ensures.cases c.in_ok-map_err.was)
    (c.if-crosses_wanted.ensures c.args.of.now.views) _ _ c.record_wanted-made.ensures _ c.write_certificate.ensures.1
    f.0 (rw f.1.0 at c.write_certificate.ensures.0))
