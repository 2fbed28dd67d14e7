-- A history taken apart for its replays, and which answers are visible. Assumes nothing.
use Rattle.std.specs.Prelude.{ℕ, ◌+◌, ◌≤◌, ◌<◌, ◌≡◌, Bool, true, false, List, [], map, length, get_or, Option, Some, None}
use Rattle.std.proofs.Math.Option as math
use Rattle.history.specs.declared.record.EventNo.{EventNo}
use Rattle.history.specs.declared.record.Op.{Op}
use Rattle.history.specs.declared.record.Op.TheVariants.{Write}
use Rattle.history.specs.declared.record.Object.{Object}
use Rattle.history.specs.declared.record.Answer.{Answer}
use Rattle.history.specs.Record.{no_object, recorded_in}
use Rattle.history.specs.Kinds.{is_shelf, has_op}
use Rattle.criteria.specs.Tests.{table}
use Rattle.criteria.specs.Object.{keeps, gives}
use Rattle.criteria.specs.Check.{fits}
use Rattle.criteria.specs.History.{Event, History, only, own}
use Rattle.objects.specs.declared.state.State.{State}
use Rattle.objects.specs.State.{no_state, contents_of, is_stack, limit_of}
use Rattle.replays.specs.declared.light.LightHistory.{LightHistory}
use Rattle.replays.specs.declared.replay.Light.{Light}
use Rattle.replays.specs.declared.replay.Visible.{Visible}
use Rattle.replays.specs.declared.replay.Visible.TheVariants.{All, Of, Only}

-- What stands in a place that is not used.
abbrev pub no_light : Light
no_light = record { process = record { 0 = 0 }; object = 0; op = Write; silent = false }

abbrev pub unused_answer : Answer
unused_answer = record { lost = false; count = 0; values = [] }

-- Event e: the light record has its process, object and op; its value and its answer stand beside.
abbrev pub event_in : LightHistory → ℕ → Event
event_in h e =
    record {
      process = (get_or h.events e no_light).process.0;
      object = (get_or h.events e no_light).object;
      op = (get_or h.events e no_light).op;
      value = get_or h.values e 0;
      answer = recorded_in (get_or h.answers e unused_answer);
    }

-- The history that was taken apart: its first events, as many as it has, and its objects.
unfoldable pub history_in : LightHistory → History
history_in h = record { objects = h.objects; events = table h.size (event_in h) }

-- What the objects hold.
abbrev pub contents_in : List ℕ → List State → List (List ℕ)
contents_in vs states = map (contents_of vs) states

-- All answers are visible, or those of a process, or that of one event.
abbrev pub is_visible : History → Visible → ℕ → Bool
is_visible h All e = true
is_visible h (Of p) e = own h p.0 e
is_visible h (Only f) e = only f.0 e

-- The number of the event that was found, where there is one.
abbrev pub found_event : Option EventNo → math.Option ℕ
found_event None = math.none
found_event (Some e) = math.some e.0

-- A state of the object after at most m events, if it started with at most one value: pop takes the end that the kind says, and the
-- limit is the object's. A register or a window keeps at most eight values, and never holds more.
pub record Stands (o : Object) (m : ℕ) (s : State) : Type 0 where
  pub newest : is_stack o.kind ≡ s.newest
  pub limit : limit_of o ≡ s.limit
  pub ends : s.head ≤ s.tail
  pub room : s.tail ≤ 1 + m
  pub small : keeps o.kind o.width ≤ 8
  pub few : is_shelf o.kind ≡ false → (vs : List ℕ) → length (contents_of vs s) ≤ 8

-- A recorded answer is what the op gives, whatever the object holds.
abbrev pub Silent : Object → Op → Answer → Type 0
Silent o op answer = (v : ℕ) (c : List ℕ) → fits (recorded_in answer) (gives o op v c) ≡ true

-- What the replays take for granted of a history that was taken apart: there are values of 64 events and of the start, and at most 64
-- events; an event's object is one of the sixteen and has its op; no answer that was not lost has more than eight values; and a silent event's
-- answer is right whatever its object holds.
pub record SoundParts (h : LightHistory) : Type 0 where
  pub values : length h.values ≡ 65
  pub small : h.size ≤ 64
  pub object : (e : ℕ) → e < h.size → (get_or h.events e no_light).object < 16
  pub op : (e : ℕ) → e < h.size → has_op (get_or h.objects (get_or h.events e no_light).object no_object).kind (get_or h.events e no_light).op ≡ true
  pub answer : (e : ℕ) → e < h.size → (get_or h.answers e unused_answer).lost ≡ false → (get_or h.answers e unused_answer).count ≤ 8
  pub silent : (e : ℕ) → e < h.size → (get_or h.events e no_light).silent ≡ true
      → Silent (get_or h.objects (get_or h.events e no_light).object no_object) (get_or h.events e no_light).op (get_or h.answers e unused_answer)

-- What the replay of a view takes for granted: the parts are sound, the view has at most 64 entries, all of them events, and each
-- object's state stands before any event.
pub record Ready (h : LightHistory) (starts : List State) (view : List ℕ) : Type 0 where
  pub parts : SoundParts h
  pub short : length view ≤ 64
  pub event : (i : ℕ) → i < length view → get_or view i 0 < h.size
  pub start : (o : ℕ) → o < 16 → Stands (get_or h.objects o no_object) 0 (get_or starts o no_state)
