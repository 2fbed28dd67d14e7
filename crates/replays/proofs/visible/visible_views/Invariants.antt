-- The answers that are visible in the first k views are those of the criterion.
use Rattle.std.proofs.Common.{◌≡◌, ℕ, ◌<◌, length, get_or}
use Rattle.replays.specs.Visible.{no_visible, visible_at}
use Rattle.replays.proofs.visible.visible_views.Given as goal

abbrev pub invariant-loop-k : goal.invariant-loop-k
invariant-loop-k l =
    (length l.views ≡ 64) × ((j : ℕ) → j < l.k → get_or l.views j no_visible ≡ visible_at l.c l.numbers l.events j)
