-- The pasts of the first e events are made.
use Rattle.std.proofs.Common.{◌≡◌, map}
use Rattle.history.specs.Record.{pad}
use Rattle.certificate.specs.Record.{no_list, event_list_of}
use Rattle.criteria.specs.Tests.{table}
use Rattle.weakened.proofs.SequentialLaws.{past_of}
use Rattle.weakened.proofs.sequential.preceding_pasts.Given as goal

abbrev pub invariant-loop-e : goal.invariant-loop-e
invariant-loop-e l = l.pasts ≡ pad 64 no_list (map event_list_of (table l.e (past_of l.view.events.now)))
