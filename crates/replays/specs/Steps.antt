-- How the replay's loop does it. Assumes nothing.
use Rattle.std.specs.Prelude.{ℕ, Bool, true, eqb}
use Rattle.replays.specs.declared.replay.Visible.{Visible}
use Rattle.replays.specs.declared.replay.Visible.TheVariants.{All, Of, Only}

-- The answer of event e, which is of process p, is visible.
abbrev pub sees_of : Visible → ℕ → ℕ → Bool
sees_of All p e = true
sees_of (Of q) p e = eqb p q.0
sees_of (Only f) p e = eqb e f.0
