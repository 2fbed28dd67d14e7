-- The fields of a line as they are written.
use Rattle.std.specs.Prelude.{ℕ, List, [], ◌∷◌, ◌++◌, length, get_or}
use Rattle.layout.specs.Word.{dash, object_heading, event_heading}
use Rattle.layout.specs.Number.{spell}
use Rattle.layout.specs.Pieces.{pieces_from}
use Rattle.history.specs.Kinds.{kind_word, op_word}
use Rattle.history.specs.Record.{no_object, no_event}
use Rattle.history.specs.HistoryText.{answer_text, object_text, event_text}
use Rattle.history.specs.declared.record.Object.{Object}
use Rattle.history.specs.declared.record.Event.{Event}
use Rattle.history_writer.specs.declared.line.Field.{Field}
use Rattle.history_writer.specs.declared.line.Field.TheVariants.{Dash, Number, Kind, Op, Answer}

-- The text of a field.
unfoldable pub field_text : Field → List ℕ
field_text Dash = dash
field_text (Number n) = spell n
field_text (Kind k) = kind_word k
field_text (Op o) = op_word o
field_text (Answer a) = answer_text a

-- The line of the object i and of the event i, their line feeds too.
abbrev pub object_piece : List Object → ℕ → List ℕ
object_piece os i = object_text i (get_or os i no_object) ++ 10 ∷ []

abbrev pub event_piece : List Event → ℕ → List ℕ
event_piece es i = event_text i (get_or es i no_event) ++ 10 ∷ []

-- The whole text: the objects with their heading, and the events with theirs.
abbrev pub objects_bytes : List Object → List ℕ
objects_bytes os = (object_heading ++ 10 ∷ []) ++ pieces_from (object_piece os) 0 (length os)

abbrev pub events_bytes : List Event → List ℕ
events_bytes es = (event_heading ++ 10 ∷ []) ++ pieces_from (event_piece es) 0 (length es)

abbrev pub text_bytes : List Object → List Event → List ℕ
text_bytes os es = objects_bytes os ++ events_bytes es
