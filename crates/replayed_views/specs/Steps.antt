-- How the searches do it: the replay of one object, and the one event that decides a view. Assumes nothing.
use Rattle.std.specs.Prelude.{ℕ, ◌≤◌, ◌<◌, ◌≡◌, Bool, true, false, not, ◌&&◌, List, [], ◌∷◌, ◌++◌, length, get_or, drop, eqb}
use Rattle.std.proofs.Math.Option.{Option, none}
use Rattle.history.specs.Record.{no_object}
use Rattle.criteria.specs.Object.{after, gives}
use Rattle.criteria.specs.Tests.{or, found_if, mem}
use Rattle.criteria.specs.History.{History, event, object, only}
use Rattle.criteria.specs.Replay.{Contents}
use Rattle.criteria.specs.Check.{fits, first_wrong}
use Rattle.objects.specs.declared.state.State.{State}
use Rattle.orders.specs.Rows.{in_row}
use Rattle.replays.specs.declared.light.LightHistory.{LightHistory}
use Rattle.replays.specs.declared.replay.Light.{Light}
use Rattle.replays.specs.declared.replay.Visible.{Visible}
use Rattle.replays.specs.declared.replay.Visible.TheVariants.{All, Of, Only}
use Rattle.replays.specs.Replay.{no_light, history_in, is_visible, Stands, SoundParts}

-- The first wrong answer among events of the object o, where only e's answer is visible, from what the object holds.
abbrev pub one_wrong : History → ℕ → ℕ → List ℕ → List ℕ → Option ℕ
one_wrong h e o c [] = none
one_wrong h e o c (f ∷ fs) =
    or (found_if (only e f && not (fits (event h f).answer (gives (object h o) (event h f).op (event h f).value c))) f)
    (one_wrong h e o (after (object h o) (event h f).op (event h f).value c) fs)

-- Row o has the events of the object o.
abbrev pub ObjectRows : List Light → List ℕ → Type 0
ObjectRows ls rows = (o : ℕ) → o < 16 → (f : ℕ) → f < 64 → in_row (get_or rows o 0) f ≡ eqb (get_or ls f no_light).object o

-- What the replay of one object's events takes for granted: the parts of the history are sound, the view has at most 64 entries, all of
-- them events, e is an event, the events that are kept are of e's object, and the state of that object stands before any event.
pub record ReadyKept (h : LightHistory) (first : State) (view : List ℕ) (kept : ℕ → Bool) (e : ℕ) : Type 0 where
  pub parts : SoundParts h
  pub short : length view ≤ 64
  pub event : (i : ℕ) → i < length view → get_or view i 0 < h.size
  pub own : e < h.size
  pub same : (f : ℕ) → f < h.size → kept f ≡ true → (get_or h.events f no_light).object ≡ (get_or h.events e no_light).object
  pub start : Stands (get_or h.objects (get_or h.events e no_light).object no_object) 0 first

-- The answers of process p are the visible ones.
abbrev pub shows_of : Visible → ℕ → Bool
shows_of All p = false
shows_of (Of q) p = eqb q.0 p
shows_of (Only f) p = false

-- b goes on from a by events of which none but e is of process p, which is e's.
pub record GoesOn (ls : List Light) (a b : List ℕ) (p e : ℕ) : Type 0 where
  pub own : (get_or ls e no_light).process.0 ≡ p
  pub begins : b ≡ a ++ drop (length a) b
  pub alone : (f : ℕ) → mem f (drop (length a) b) ≡ true → (get_or ls f no_light).process.0 ≡ p → f ≡ e

-- Event e's answer decides the view w, if the replay of the view v gave the answers that were visible there.
unfoldable pub Decides : LightHistory → Visible → List ℕ → Visible → List ℕ → ℕ → Type 0
Decides h before v seen w e =
    (s : Contents) → first_wrong (history_in h) (is_visible (history_in h) before) s v ≡ none
    → first_wrong (history_in h) (is_visible (history_in h) seen) s w ≡ first_wrong (history_in h) (only e) s w
