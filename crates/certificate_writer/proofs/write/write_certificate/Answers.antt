-- `write_certificate` meets its contract: the limits and the length are judged before the first byte is written. Assumes nothing.
use Rattle.std.proofs.Common.{rules, arith, ◌≤◌}
use Rattle.std.proofs.lemmas.Grind.{common_steps}
use Rattle.certificate_writer.proofs.TextLaws.{count_few, past_short, view_short, views_all, answer_short, answer_fits, answer_refused}
use Rattle.certificate_writer.proofs.write.write_certificate.Goals as goal

pub returns-then-not-is_writable : goal.returns-then-not-is_writable
returns-then-not-is_writable c = answer_refused c.args.h c.args.c c.args.rows.now c.args.buf.now (search rules)

pub recorded_events-requires : goal.recorded_events-requires
recorded_events-requires c = count_few c.args.h c.args.c c.args.rows.now (search rules)

pub shared_ref_as_front-pasts : goal.shared_ref_as_front-pasts
shared_ref_as_front-pasts c =
    let few : c.args.h.count ≤ 64 = count_few c.args.h c.args.c c.args.rows.now (search rules) in
    grind (arith, common_steps)

pub invariant_of-pasts-clause-short : goal.invariant_of-pasts-clause-short
invariant_of-pasts-clause-short c =
    past_short c.args.h c.args.c c.args.rows.now (search rules) _ (rw c.recorded_events.ensures.events at c.view_numbers-numbers.ensures.0) _ c.past_count.ensures

pub invariant_of-views-clause-all : goal.invariant_of-views-clause-all
invariant_of-views-clause-all c =
    rw c.all.ensures.first (views_all c.args.h c.args.c c.args.rows.now (search rules) _ (rw c.recorded_events.ensures.events at c.view_numbers-numbers.ensures.0) _ c.past_count.ensures)

pub invariant_of-views-clause-short : goal.invariant_of-views-clause-short
invariant_of-views-clause-short c =
    view_short c.args.h c.args.c c.args.rows.now (search rules) _ (rw c.recorded_events.ensures.events at c.view_numbers-numbers.ensures.0) _ c.past_count.ensures

pub returns-then-buf-n : goal.returns-then-buf-n
returns-then-buf-n c =
    answer_short c.args.h c.args.c c.args.rows.now (search rules) _ (rw c.recorded_events.ensures.events at c.view_numbers-numbers.ensures.0) _ c.past_count.ensures
    c.args.buf.now _ (rw c.all.ensures.first at c.certificate_len-n.ensures) (search rules)

pub returns : goal.returns
returns c =
    answer_fits c.args.h c.args.c c.args.rows.now (search rules) _ (rw c.recorded_events.ensures.events at c.view_numbers-numbers.ensures.0) _ c.past_count.ensures
    c.args.buf.now _ (rw c.all.ensures.first at c.certificate_len-n.ensures) (search rules) _ (rw c.all.ensures.first at c.put_certificate.ensures.1)
