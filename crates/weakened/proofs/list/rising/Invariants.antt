-- The list has the events of the row below e.
use Rattle.std.proofs.Common.{◌≡◌, ◌≤◌}
use Rattle.certificate.specs.Record.{event_list_of}
use Rattle.criteria.specs.Tests.{keep, up_to}
use Rattle.orders.specs.Rows.{in_row}
use Rattle.weakened.proofs.list.rising.Given as goal

abbrev pub invariant-loop-e : goal.invariant-loop-e
invariant-loop-e l = (l.list.count ≤ l.e) × (l.list ≡ event_list_of (keep (in_row l.row) (up_to l.e)))
