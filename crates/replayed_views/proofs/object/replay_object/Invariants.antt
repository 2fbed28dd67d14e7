-- Nothing is wrong in the entries that were passed.
use Rattle.replayed_views.proofs.ObjectLaws.{PartPassed}
use Rattle.replayed_views.proofs.object.replay_object.Given as goal

abbrev pub invariant-loop-number : goal.invariant-loop-number
invariant-loop-number l = PartPassed l.history l.initial.state l.part l.e.0 l.number-index l.state
