-- `write_history` meets its contract: the limits and the room are known before the first byte is written. Assumes nothing.
use Rattle.std.proofs.Common.{sym, arith}
use Rattle.history_writer.proofs.WriteLaws.{counts_few, answer_refused, answer_short, answer_fits}
use Rattle.history_writer.proofs.write.write_history.Goals as goal

pub returns-then-not-is_within : goal.returns-then-not-is_within
returns-then-not-is_within c = answer_refused c.args.h c.args.buf.now (sym c.if-not-is_within.ensures)

pub declared_objects-requires : goal.declared_objects-requires
declared_objects-requires c = (counts_few c.args.h (sym c.if-not-is_within.ensures)).0

pub recorded_events-requires : goal.recorded_events-requires
recorded_events-requires c = (counts_few c.args.h (sym c.if-not-is_within.ensures)).1

pub returns-then-buf-n : goal.returns-then-buf-n
returns-then-buf-n c =
    let long = rw (c.declared_objects.ensures.objects, c.recorded_events.ensures.events) at c.history_len-n.ensures in
    answer_short c.args.h (sym c.if-not-is_within.ensures) c.args.buf.now c.history_len-n.result long c.if-buf-n.true

pub put_history-requires : goal.put_history-requires
put_history-requires c =
    omega (arith, c.history_len-n.ensures, c.if-buf-n.false)

pub returns : goal.returns
returns c =
    let long = rw (c.declared_objects.ensures.objects, c.recorded_events.ensures.events) at c.history_len-n.ensures in
    let filled = rw (c.declared_objects.ensures.objects, c.recorded_events.ensures.events) at c.put_history.ensures.1 in
    answer_fits c.args.h (sym c.if-not-is_within.ensures) c.args.buf.now c.history_len-n.result long c.if-buf-n.false
    c.put_history.new.part filled
