-- The first wrong answer of several views.
use Rattle.std.specs.Prelude.{ℕ, List, [], get_or, take}
use Rattle.std.proofs.Math.Option.{Option, none, some}
use Rattle.criteria.specs.History.{History}
use Rattle.criteria.specs.Replay.{Contents}
use Rattle.criteria.specs.Check.{first_wrong}
use Rattle.replays.specs.declared.replay.Visible.{Visible}
use Rattle.replayed_views.specs.declared.search.Place.{Place}
use Rattle.replays.specs.Replay.{is_visible}
use Rattle.replays.specs.Visible.{no_visible}

-- A view and an event, where there is an event.
abbrev pub at_view : ℕ → Option ℕ → Option Place
at_view k none = none
at_view k (some e) = some record { view = k; event = record { 0 = e } }

-- The first wrong answer of view k.
abbrev pub wrong_in : History → Contents → List Visible → List (List ℕ) → List ℕ → ℕ → Option Place
wrong_in h s who views lengths k =
    at_view k (first_wrong h (is_visible h (get_or who k no_visible)) s (take (get_or lengths k 0) (get_or views k [])))
