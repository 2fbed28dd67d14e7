-- Nothing is wrong in the parts of the events before e.
use Rattle.std.proofs.Common.{◌≡◌, ℕ, ◌<◌}
use Rattle.std.proofs.Math.Option.{none}
use Rattle.replays.specs.Replay.{history_in, contents_in}
use Rattle.replayed_views.specs.Cut.{wrong_cut}
use Rattle.replayed_views.proofs.cut.first_wrong_cut.Given as goal

abbrev pub invariant-loop-e : goal.invariant-loop-e
invariant-loop-e l =
    (i : ℕ) → i < l.e → wrong_cut (history_in l.history) (contents_in l.history.values l.starts) l.rows l.view i ≡ none
