-- Which answers are visible in the replay of the view at the place k, by the criterion.
use Rattle.std.specs.Prelude.{ℕ, List, get_or}
use Rattle.certificate.specs.declared.record.Criterion.{Criterion}
use Rattle.certificate.specs.declared.record.Criterion.TheVariants.{Pram, Weak, Causal, Converge, Sequential, Strict}
use Rattle.replays.specs.declared.replay.Light.{Light}
use Rattle.replays.specs.declared.replay.Visible.{Visible}
use Rattle.replays.specs.declared.replay.Visible.TheVariants.{All, Of, Only}
use Rattle.replays.specs.Replay.{no_light}

-- What stands in a place that is not used.
abbrev pub no_visible : Visible
no_visible = All

abbrev pub visible_in : Criterion → ℕ → ℕ → ℕ → Visible
visible_in Pram number process k = Of record { 0 = number }
visible_in Weak number process k = Only record { 0 = k }
visible_in Causal number process k = Of record { 0 = process }
visible_in Converge number process k = Only record { 0 = k }
visible_in Sequential number process k = All
visible_in Strict number process k = Of record { 0 = number }

abbrev pub visible_at : Criterion → List ℕ → List Light → ℕ → Visible
visible_at c numbers ls k = visible_in c (get_or numbers k 0) (get_or ls k no_light).process.0 k
