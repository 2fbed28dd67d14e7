-- `cut_to` meets its contract: the list so far has those of the first entries that are kept. Assumes nothing.
use Rattle.std.proofs.Common.{◌≡◌, ◌≤◌, take}
use Rattle.certificate.specs.Record.{event_list_of}
use Rattle.criteria.specs.Tests.{keep}
use Rattle.orders.specs.Rows.{in_row}
use Rattle.orders.proofs.views.View.cut_to.Given as goal

abbrev pub invariant-loop-x : goal.invariant-loop-x
invariant-loop-x l = (l.cut.count ≤ l.x-index) × (l.cut ≡ event_list_of (keep (in_row l.kept) (take l.x-index l.self.events.now)))
