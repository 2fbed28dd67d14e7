-- Reading a history text: its record, or the first faulty line and the first fault on it.
use Rattle.std.specs.Prelude.{ℕ, ◌+◌, cond, List, [], ◌∷◌, ◌++◌, length, eqb, leb, Result, Ok, Err}
use Rattle.layout.specs.Split.{split}
use Rattle.layout.specs.Word.{same, object_heading, event_heading}
use Rattle.history.specs.Record.{no_history, history_of}
use Rattle.history.specs.Faults.{fault_number, object_line, event_line}
use Rattle.history.specs.declared.record.Object.{Object}
use Rattle.history.specs.declared.record.Event.{Event}
use Rattle.history.specs.declared.record.History.{History}
use Rattle.history_reader.specs.declared.read.Refusal.{Refusal}
use Rattle.history_reader.specs.Place.{Place, HistoryText, nowhere, line_place, faulty_place, bytes_at}

-- What a text is as a history: its record and fault 0; or the first fault and the place of its line.
pub record HistoryRead : Type 0 where
  pub fault : ℕ
  pub place : Place
  pub history : History

-- The code's result as one of these.
abbrev pub history_read : Result History Refusal → HistoryRead
history_read (Ok h) = record { fault = 0; place = nowhere; history = h }
history_read (Err r) = record { fault = fault_number r.fault; place = line_place r.place; history = no_history }

-- A refusal: its number, and the place of the faulty line, which begins at the place `at` and has `size` bytes without its line feed.
abbrev pub refusal : ℕ → ℕ → ℕ → ℕ → HistoryRead
refusal fault line at size =
    record { fault = fault; place = faulty_place HistoryText line at size; history = no_history }

-- A text without a fault: the record of its objects and events.
abbrev pub read_as : List Object → List Event → HistoryRead
read_as os es = record { fault = 0; place = nowhere; history = history_of os es }

-- The parts of a text between its line feeds are its lines and, last, what follows the last line feed. So a last part that is
-- not empty is a line without its line feed, and an empty one is where a missing line would stand.

-- The lines from number `line` on, which begins at the place `at`, after the heading of the events: the objects os are declared
-- and the events es are read.
unfoldable pub events_from : List Object → List Event → ℕ → ℕ → List (List ℕ) → HistoryRead
events_from os es line at [] = refusal 2 line at 0
events_from os es line at (p ∷ []) = cond (eqb (length p) 0) (read_as os es) (refusal 2 line at (length p))
events_from os es line at (p ∷ q ∷ ps) =
    cond (eqb (event_line (length es) os p).fault 0)
    (events_from os (es ++ (event_line (length es) os p).event ∷ []) (line + 1) (at + length p + 1) (q ∷ ps))
    (refusal (event_line (length es) os p).fault line at (length p))

-- The same after the heading of the objects, of which os are declared.
unfoldable pub objects_from : List Object → ℕ → ℕ → List (List ℕ) → HistoryRead
objects_from os line at [] = refusal 2 line at 0
objects_from os line at (p ∷ []) = refusal 2 line at (length p)
objects_from os line at (p ∷ q ∷ ps) =
    cond (same p event_heading)
    (events_from os [] (line + 1) (at + length p + 1) (q ∷ ps))
    (cond (eqb (object_line (length os) p).fault 0)
    (objects_from (os ++ (object_line (length os) p).object ∷ []) (line + 1) (at + length p + 1) (q ∷ ps))
    (refusal (object_line (length os) p).fault line at (length p)))

-- All lines, of which the first is the heading of the objects.
unfoldable pub lines_from : List (List ℕ) → HistoryRead
lines_from [] = refusal 2 1 0 0
lines_from (p ∷ []) = refusal 2 1 0 (length p)
lines_from (p ∷ q ∷ ps) = cond (same p object_heading) (objects_from [] 2 (length p + 1) (q ∷ ps)) (refusal 2 1 0 (length p))

-- What a text is as a history. One that is longer than 16,384 bytes is refused first.
unfoldable pub read_history : List ℕ → HistoryRead
read_history text = cond (leb (length text) 16384) (lines_from (split 10 text)) (refusal 1 0 0 0)

-- The faulty line of a text, without its line feed; empty where there is none.
unfoldable pub faulty_line : List ℕ → List ℕ
faulty_line text = bytes_at (read_history text).place text
