-- Nothing is wrong in the views before k.
use Rattle.std.proofs.Common.{◌≡◌, ℕ, ◌<◌}
use Rattle.std.proofs.Math.Option.{none}
use Rattle.replays.specs.Replay.{history_in, contents_in}
use Rattle.replayed_views.specs.Search.{wrong_in}
use Rattle.replayed_views.proofs.search.first_wrong.Given as goal

abbrev pub invariant-loop-k : goal.invariant-loop-k
invariant-loop-k l =
    (i : ℕ) → i < l.k → wrong_in (history_in l.history) (contents_in l.history.values l.fn.starts) l.who l.views.rows.now l.views.lengths.now i ≡ none
