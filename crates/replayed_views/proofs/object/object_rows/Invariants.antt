-- The rows of the objects hold the events that were passed.
use Rattle.std.proofs.Common.{◌≡◌, length}
use Rattle.replayed_views.proofs.ObjectLaws.{RowsOf}
use Rattle.replayed_views.proofs.object.object_rows.Given as goal

abbrev pub invariant-loop-e : goal.invariant-loop-e
invariant-loop-e l = (length l.rows ≡ 16) × RowsOf l.events l.rows l.e
