use Rattle.std.proofs.Common.{◌≡◌, ℕ, ◌<◌, List}
use Rattle.certificate.specs.declared.record.EventList.{EventList}
use Rattle.certificate.specs.Record.{event_list_of, rows_of}
use Rattle.criteria.specs.Tests.{table}
use Rattle.weakened.specs.Steps.{lengths_of}
use Rattle.weakened.proofs.views.view_rows.Given as goal

abbrev pub invariant-loop-k : goal.invariant-loop-k
invariant-loop-k g l =
    (view : ℕ → List ℕ) → ((k : ℕ) (list : EventList) → k < l.m → goal.F-post g l.make k list → list ≡ event_list_of (view k))
    → (l.rows ≡ rows_of (table l.k view)) × (l.lengths ≡ lengths_of (table l.k view))
