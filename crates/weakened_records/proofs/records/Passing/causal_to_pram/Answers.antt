-- `causal_to_pram` meets its contract: each view is that of the last event of its process, completed. Assumes nothing.
use Rattle.std.proofs.Common.{rules}
use Rattle.weakened_records.proofs.CausalRecords.{completes, pram-record}
use Rattle.weakened_records.proofs.records.Passing.causal_to_pram.Goals as goal

pub completed_views-made-requires : goal.completed_views-made-requires
completed_views-made-requires c =
    completes c.args.self.now c.requires c.view_numbers-named.result (rw c.recorded_events-events.ensures.events at c.view_numbers-named.ensures.0)
    c.processes_of-processes.result (search rules) c.processes_of-processes.ensures c.views-views.result _ (c.all.ensures.all _ (rw c.recorded_events-events.ensures.events at c.view_numbers-own.ensures.0))
    c.views-views.ensures.rows c.views-views.ensures.lengths _ c.all-2.ensures.first c.views-views.ensures.numbers

pub returns : goal.returns
returns c =
    pram-record c.args.self.now c.requires c.view_numbers-named.result (rw c.recorded_events-events.ensures.events at c.view_numbers-named.ensures.0)
    c.processes_of-processes.result (search rules) c.processes_of-processes.ensures c.views-views.result _ (c.all.ensures.all _ (rw c.recorded_events-events.ensures.events at c.view_numbers-own.ensures.0))
    c.views-views.ensures.rows c.views-views.ensures.lengths _ c.all-2.ensures.first
    c.record_of.result c.no_pasts.result c.completed_views-made.result c.record_of.ensures c.no_pasts.ensures c.completed_views-made.ensures
