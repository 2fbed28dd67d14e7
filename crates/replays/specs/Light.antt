-- Which answers need not be asked, the light record of an event, and a history taken apart.
use Rattle.std.specs.Prelude.{ℕ, ◌<◌, ◌≡◌, Bool, not, ◌&&◌, ◌||◌, List, length, get_or, eqb}
use Rattle.history.specs.declared.record.Kind.{Kind}
use Rattle.history.specs.declared.record.Op.{Op}
use Rattle.history.specs.declared.record.Object.{Object}
use Rattle.history.specs.declared.record.Answer.{Answer}
use Rattle.history.specs.declared.record.Event.{Event}
use Rattle.history.specs.declared.record.History.{History}
use Rattle.history.specs.Record.{no_object, no_event}
use Rattle.history.specs.Kinds.{is_channel, takes_value}
use Rattle.replays.specs.declared.light.LightHistory.{LightHistory}
use Rattle.replays.specs.declared.replay.Light.{Light}
use Rattle.replays.specs.Replay.{no_light, unused_answer}

-- The op of an object of this kind never answers a value: write, and push but on a channel.
abbrev pub never_answers : Kind → Op → Bool
never_answers k op = takes_value op && not (is_channel k)

-- The answer is right whatever the object holds: it was lost, or it has no value and the op never answers.
abbrev pub is_silent : Kind → Op → Answer → Bool
is_silent k op a = a.lost || (never_answers k op && eqb a.count 0)

-- The light record of an event whose object is of this kind.
abbrev pub light_with : Kind → Event → Light
light_with k e = record { process = e.process; object = e.object; op = e.op; silent = is_silent k e.op e.answer }

-- The light record of an event, in a history with these objects.
abbrev pub light_of : List Object → Event → Light
light_of os e = light_with (get_or os e.object no_object).kind e

-- The events of a history taken apart: of each the light record and the answer; and its objects.
pub record EventsApart (h : History) (r : LightHistory) : Type 0 where
  pub objects : r.objects ≡ h.objects
  pub size : r.size ≡ h.count
  pub lights : (e : ℕ) → e < h.count → get_or r.events e no_light ≡ light_of h.objects (get_or h.events e no_event)
  pub answers : (e : ℕ) → e < h.count → get_or r.answers e unused_answer ≡ (get_or h.events e no_event).answer

-- A history taken apart for its replays: of each of its events the light record, the value and the answer; the last of the values is 0,
-- for the start.
pub record TakenApart (h : History) (r : LightHistory) : Type 0 where
  pub events : EventsApart h r
  pub long : length r.values ≡ 65
  pub start : get_or r.values 64 0 ≡ 0
  pub values : (e : ℕ) → e < h.count → get_or r.values e 0 ≡ (get_or h.events e no_event).value
