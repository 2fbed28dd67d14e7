-- The history text as a printer: the text of a record (document 01, "History text").
use Rattle.std.specs.Prelude.{ℕ, ◌+◌, cond, List, [], ◌∷◌, ◌++◌}
use Rattle.layout.specs.Split.{join}
use Rattle.layout.specs.Word.{dash, question, object_heading, event_heading}
use Rattle.layout.specs.Number.{spell}
use Rattle.layout.specs.List.{list_text}
use Rattle.history.specs.Record.{values_in, objects_in, events_in}
use Rattle.history.specs.Kinds.{kind_word, op_word, has_width, takes_value}
use Rattle.history.specs.declared.record.Object.{Object}
use Rattle.history.specs.declared.record.Answer.{Answer}
use Rattle.history.specs.declared.record.Event.{Event}
use Rattle.history.specs.declared.record.History.{History}

-- Lines, each with its line feed.
unfoldable pub lines_text : List (List ℕ) → List ℕ
lines_text [] = []
lines_text (l ∷ ls) = l ++ 10 ∷ lines_text ls

-- The line of an object: its number, kind word, width, or `-` for all kinds but window and channel.
unfoldable pub object_text : ℕ → Object → List ℕ
object_text own o =
    join 32 (spell own ∷ kind_word o.kind ∷ cond (has_width o.kind) (spell o.width) dash ∷ [])

-- An answer: its values joined by commas, `-` when empty, `?` where it was lost.
unfoldable pub answer_text : Answer → List ℕ
answer_text a = cond a.lost question (list_text (values_in a))

-- The line of an event: its number, process, object, op, value, or `-` for read, pop and peek, and answer.
unfoldable pub event_text : ℕ → Event → List ℕ
event_text own e =
    join 32
    (spell own ∷ spell e.process.0 ∷ spell e.object ∷ op_word e.op
    ∷ cond (takes_value e.op) (spell e.value) dash
    ∷ answer_text e.answer ∷ [])

-- The lines of objects and of events that are numbered from `own` on.
unfoldable pub object_lines : ℕ → List Object → List (List ℕ)
object_lines own [] = []
object_lines own (o ∷ os) = object_text own o ∷ object_lines (own + 1) os

unfoldable pub event_lines : ℕ → List Event → List (List ℕ)
event_lines own [] = []
event_lines own (e ∷ es) = event_text own e ∷ event_lines (own + 1) es

-- The text of objects and events, and of a record.
unfoldable pub text_of : List Object → List Event → List ℕ
text_of os es = lines_text (object_heading ∷ object_lines 0 os ++ event_heading ∷ event_lines 0 es)

unfoldable pub history_text : History → List ℕ
history_text h = text_of (objects_in h) (events_in h)
