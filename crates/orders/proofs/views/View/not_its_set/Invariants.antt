-- A view and its set: the whole is judged as the entries that are left are, against what is not marked off. Assumes nothing.
use Rattle.std.proofs.Common.{◌≡◌, drop}
use Rattle.criteria.specs.Check.{not_its_set}
use Rattle.orders.specs.Rows.{in_row}
use Rattle.orders.proofs.views.View.not_its_set.Given as goal

abbrev pub invariant-loop-x : goal.invariant-loop-x
invariant-loop-x l = not_its_set 64 (in_row l.set) l.self.events.now ≡ not_its_set 64 (in_row l.left) (drop l.x-index l.self.events.now)
