-- Nothing is wrong in the entries that were passed.
use Rattle.replays.proofs.ReplayLaws.{Passed}
use Rattle.replays.proofs.replay.replay.Given as goal

abbrev pub invariant-loop-number : goal.invariant-loop-number
invariant-loop-number l = Passed l.history l.initial.states l.view l.who l.number-index l.states
