-- `check_records` meets its contract: what the first step with a fault finds is the answer. Assumes nothing.
use Rattle.std.proofs.Common.{rules, arith, ◌≡◌, ◌<◌, ◌∙◌, ap, sym, length}
use Rattle.std.proofs.Math.Seq.{get_or-take, length-take-le}
use Rattle.std.proofs.lemmas.Result.{err_from_is_err_and}
use Rattle.certificate.specs.Record.{no_list}
use Rattle.orders.proofs.ViewLaws.{views-first}
use Rattle.faults.specs.Finding.{finding_of}
use Rattle.faults.proofs.RecordFacts.{process-small, numbers-long}
use Rattle.faults.proofs.CheckLaws.{few-of, short-past, short-views, event-views, few-views, order-stops, views-stop, replay-stops, take-few, taken}
use Rattle.faults.proofs.check.check_records.Goals as goal

pub recorded_events-requires : goal.recorded_events-requires
recorded_events-requires c = few-of c.args.h.now c.requires.0

pub view_numbers-named-requires : goal.view_numbers-named-requires
view_numbers-named-requires c = omega (arith, c.recorded_events.ensures.count, few-of c.args.h.now c.requires.0)

pub slice_bounds-processes-end : goal.slice_bounds-processes-end
slice_bounds-processes-end c =
    let few = few-of c.args.h.now c.requires.0 in
    let long : length c.processes_of-processes.result ≡ 64 = search rules in
    omega arith

pub slice_bounds-program_rows-end : goal.slice_bounds-program_rows-end
slice_bounds-program_rows-end c =
    let few = few-of c.args.h.now c.requires.0 in
    let long : length c.processes_of-processes.result ≡ 64 = search rules in
    sym (length-take-le c.args.h.now.count c.processes_of-processes.result (omega arith))

pub shared_ref_as_front-order_rows : goal.shared_ref_as_front-order_rows
shared_ref_as_front-order_rows c = few-of c.args.h.now c.requires.0

pub order_fault-requires : goal.order_fault-requires
order_fault-requires c =
    let few = few-of c.args.h.now c.requires.0 in
    search rules

pub view_fault-requires : goal.view_fault-requires
view_fault-requires c = few-of c.args.h.now c.requires.0

pub program_rows-program-requires : goal.program_rows-program-requires
program_rows-program-requires c =
    let few = few-of c.args.h.now c.requires.0 in (
      take-few c.args.h.now.count c.processes_of-processes.result few,
      λ i l.
          let k : i < c.args.h.now.count = taken c.args.h.now.count c.processes_of-processes.result i l in
          rw (get_or-take c.args.h.now.count c.processes_of-processes.result i 0 k, c.processes_of-processes.ensures i (omega (arith, few, k))) (process-small c.args.h.now c.requires.0 i k),
    )

pub order_rows-rows-requires : goal.order_rows-rows-requires
order_rows-rows-requires c =
    let views = few-views _ _ _ c.requires _ (rw c.recorded_events.ensures.events at c.view_numbers-named.ensures) in (
      take-few c.args.h.now.count c.args.c.now.pasts (few-of c.args.h.now c.requires.0),
      λ e k l.
          let i : k < c.args.h.now.count = taken c.args.h.now.count c.args.c.now.pasts k l in
          rw (get_or-take c.args.h.now.count c.args.c.now.pasts k no_list i) (short-past c.args.h.now c.requires.0 c.args.c.now c.args.views.now c.requires.1 views k),
    )

pub invariant_of-views-clause-events : goal.invariant_of-views-clause-events
invariant_of-views-clause-events c =
    let views = few-views _ _ _ c.requires _ (rw c.recorded_events.ensures.events at c.view_numbers-named.ensures) in
    let m = c.view_numbers-named.result.count in
    rw (c.all.ensures.first, numbers-long c.view_numbers-named.result _ c.view_numbers-named.ensures.0)
    (views-first c.args.views.now c.args.c.now.lengths m 64 (short-views c.args.h.now c.requires.0 c.args.c.now c.args.views.now c.requires.1 views m c.view_numbers-named.ensures.1))

pub returns-in_err-order_fault : goal.returns-in_err-order_fault
returns-in_err-order_fault c =
    let back = err_from_is_err_and c.from_residual.result c.from_residual.ensures.1 in
    let is = order-stops _ _ _ c.requires _ (rw c.recorded_events.ensures.events at c.view_numbers-named.ensures) _ (search rules) c.processes_of-processes.ensures _ c.program_rows-program.ensures _ c.order_rows-rows.ensures _ c.past_count.ensures
    _ c.order_fault.ensures c.in_err-order_fault.was in
    rw (back.1, back.2) (ap finding_of (sym c.in_err-order_fault.was) ∙ is)

pub returns-in_err-view_fault : goal.returns-in_err-view_fault
returns-in_err-view_fault c =
    let back = err_from_is_err_and c.from_residual-in_err-view_fault.result c.from_residual-in_err-view_fault.ensures.1 in
    let is = views-stop _ _ _ c.requires _ (rw c.recorded_events.ensures.events at c.view_numbers-named.ensures) _ (search rules) c.processes_of-processes.ensures _ c.program_rows-program.ensures _ c.order_rows-rows.ensures _ c.past_count.ensures
    _ c.order_fault.ensures c.in_ok-order_fault.was _ (rw c.all.ensures.first at c.view_fault.ensures) c.in_err-view_fault.was in
    rw (back.1, back.2) (ap finding_of (sym c.in_err-view_fault.was) ∙ is)

pub replay_fault-requires : goal.replay_fault-requires
replay_fault-requires c =
    let views = few-views _ _ _ c.requires _ (rw c.recorded_events.ensures.events at c.view_numbers-named.ensures) in
    let m = c.view_numbers-named.result.count in
    let long = numbers-long c.view_numbers-named.result _ c.view_numbers-named.ensures.0 in (
      c.requires.0,
      c.all.ensures.all _ (rw c.recorded_events.ensures.events at c.view_numbers-named.ensures).0,
      rw (c.all.ensures.first, long) (views-first c.args.views.now c.args.c.now.lengths m c.args.h.now.count (event-views c.args.h.now c.requires.0 c.args.c.now c.args.views.now c.requires.1 views m c.view_numbers-named.ensures.1)),
    )

pub returns : goal.returns
returns c =
    replay-stops _ _ _ c.requires _ (rw c.recorded_events.ensures.events at c.view_numbers-named.ensures) _ (search rules) c.processes_of-processes.ensures _ c.program_rows-program.ensures _ c.order_rows-rows.ensures _ c.past_count.ensures
    _ c.order_fault.ensures c.in_ok-order_fault.was _ (rw c.all.ensures.first at c.view_fault.ensures) c.in_ok-view_fault.was _ c.replay_fault.ensures
