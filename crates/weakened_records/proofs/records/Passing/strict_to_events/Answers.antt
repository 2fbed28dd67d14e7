-- `strict_to_events` meets its contract: each event's view is its process's view up to and with it. Assumes nothing.
use Rattle.std.proofs.Common.{rules}
use Rattle.faults.proofs.CheckLaws.{take-few}
use Rattle.weakened_records.proofs.StrictRecords.{slot_small, events-record}
use Rattle.weakened_records.proofs.records.Passing.strict_to_events.Goals as goal

pub own_parts-requires : goal.own_parts-requires
own_parts-requires c =
    let p = c.args.self.now in (
      take-few p.h.now.count c.processes_of-processes.result p.few,
      rw (c.views-views.ensures.numbers, c.all.ensures.first)
          (slot_small p c.requires.0 c.view_numbers-named.result (rw c.recorded_events.ensures.events at c.view_numbers-named.ensures.0)
          c.processes_of-processes.result (search rules) c.processes_of-processes.ensures),
    )

pub returns : goal.returns
returns c =
    events-record c.args.self.now c.requires.0 c.view_numbers-named.result (rw c.recorded_events.ensures.events at c.view_numbers-named.ensures.0)
    c.processes_of-processes.result (search rules) c.processes_of-processes.ensures c.args.wanted c.requires.1
    c.record_of.result c.own_parts.result c.record_of.ensures
    (rw (c.views-views.ensures.rows, c.views-views.ensures.lengths, c.views-views.ensures.numbers, c.all.ensures.first) at c.own_parts.ensures)
