-- `order_of` meets its contract: a history within its limits has at most 64 events. Assumes nothing.
use Rattle.std.proofs.Common.{arith}
use Rattle.faults.proofs.CheckLaws.{few-of}
use Rattle.orders.proofs.ListedLaws.{short-first}
use Rattle.one_line.proofs.order.order_of.Goals as goal

pub shared_ref_as_front-past_rows : goal.shared_ref_as_front-past_rows
shared_ref_as_front-past_rows c = few-of c.args.h.now c.requires.history

pub past_rows-requires : goal.past_rows-requires
past_rows-requires c = short-first c.args.c.now.pasts c.args.h.now.count (few-of c.args.h.now c.requires.history) c.requires.pasts

pub recorded_events-requires : goal.recorded_events-requires
recorded_events-requires c = few-of c.args.h.now c.requires.history

pub updates_of-requires : goal.updates_of-requires
updates_of-requires c = omega (arith, c.recorded_events.ensures.count, few-of c.args.h.now c.requires.history)

pub invariant_of-result : goal.invariant_of-result
invariant_of-result c = record { few = few-of c.args.h.now c.requires.history }
