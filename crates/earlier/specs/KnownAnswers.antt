-- The check before answers could be lost: what T-01 of document 02 changed, as it stood. Each definition is then the one of its name
-- without `Before`, word for word but for three things: the bound of values, 65536 there, is named; the recorded answer is an
-- `Option`, of which `list_in` takes the list; and the check of two texts is by `verdict_from`. What T-01 left alone is cited as it is
-- now, the line that a verdict carries (T-05) too.
use Rattle.std.specs.Prelude.{ℕ, ◌+◌, ◌≡◌, Bool, false, cond, not, ◌&&◌, ◌||◌, List, [], ◌∷◌, ◌++◌, length, get_or, eqb, leb, ltb}
use Rattle.std.proofs.Math.Option.{Option, none, some}
use Rattle.layout.specs.Split.{split}
use Rattle.layout.specs.Word.{same, dash, object_heading, event_heading}
use Rattle.layout.specs.Number.{is_number, value, spell}
use Rattle.layout.specs.List.{items_of, all_numbers, all_below, numbers_of}
use Rattle.history.specs.declared.record.Object.{Object}
use Rattle.history.specs.declared.record.Event.{Event}
use Rattle.history.specs.Record.{value_bound, answer_of}
use Rattle.history.specs.Kinds.{is_op, op_of, can_answer}
use Rattle.history.specs.Faults.{EventRead, first_fault, is_optional, optional, is_lost, object_line, event_fits, object_named, faulty_event, event_with}
use Rattle.history_reader.specs.ReadHistory.{HistoryRead, refusal, read_as}
use Rattle.certificate.specs.declared.record.Criterion.{Criterion}
use Rattle.criteria.specs.Tests.{or, found_if, lowest, same_list}
use Rattle.criteria.specs.History.{History, event}
use Rattle.criteria.specs.Replay.{Contents, start, answered, changed}
use Rattle.criteria.specs.Certificate.{Certificate, past_count, view_number, replay_count, replayed, visible, order}
use Rattle.criteria.specs.Check.{Fault, fault16, map_fault, find11, find12, find13, find14, find15, find20}
use Rattle.checker.specs.CheckText.{Verdict}
use Rattle.earlier.specs.VerdictFrom.{verdict_from}

-- ---- the line of an event: its number, process, object, op, value and answer
unfoldable pub event_layout_before : ℕ → List ℕ → List ℕ → List ℕ → List ℕ → List ℕ → List ℕ → Bool
event_layout_before own a p o w v s = same a (spell own) && is_number p && is_number o && is_op w && is_optional v && all_numbers (items_of s)

-- No 65th event, a process from 0 to 7, a declared object, values below their bound.
unfoldable pub event_limits_before : ℕ → ℕ → List ℕ → List ℕ → List ℕ → List ℕ → Bool
event_limits_before own declared p o v s =
    ltb own 64 && ltb (value p) 8 && ltb (value o) declared && (same v dash || ltb (value v) value_bound) && all_below value_bound (items_of s)

-- An answer of a length that the op can give. No op gives more than eight values.
unfoldable pub event_long_before : Object → List ℕ → List ℕ → Bool
event_long_before object w s = leb (length (items_of s)) 8 && can_answer object (op_of w) (length (items_of s))

unfoldable pub event_fault_before : ℕ → List Object → List ℕ → List ℕ → List ℕ → List ℕ → List ℕ → List ℕ → ℕ
event_fault_before own os a p o w v s =
    first_fault (event_layout_before own a p o w v s) (event_limits_before own (length os) p o v s) (event_fits (object_named os o) w v)
    (event_long_before (object_named os o) w s)

-- The event that six fields say.
unfoldable pub event_said_before : List ℕ → List ℕ → List ℕ → List ℕ → List ℕ → Event
event_said_before p o w v s =
    record { process = record { 0 = value p }; object = value o; op = op_of w; value = optional v; answer = answer_of (numbers_of s) }

-- What six fields are as the line of an event, in a history with these objects.
unfoldable pub event_six_before : ℕ → List Object → List ℕ → List ℕ → List ℕ → List ℕ → List ℕ → List ℕ → EventRead
event_six_before own os a p o w v s = event_with (event_fault_before own os a p o w v s) (event_said_before p o w v s)

unfoldable pub event_fields_before : ℕ → List Object → List (List ℕ) → EventRead
event_fields_before own os fs =
    cond (eqb (length fs) 6)
    (event_six_before own os (get_or fs 0 []) (get_or fs 1 []) (get_or fs 2 []) (get_or fs 3 []) (get_or fs 4 []) (get_or fs 5 []))
    (faulty_event 2)

-- What a line is as that of the event whose number is `own`.
unfoldable pub event_line_before : ℕ → List Object → List ℕ → EventRead
event_line_before own os line = event_fields_before own os (split 32 line)

-- ---- the history text
unfoldable pub events_from_before : List Object → List Event → ℕ → ℕ → List (List ℕ) → HistoryRead
events_from_before os es line at [] = refusal 2 line at 0
events_from_before os es line at (p ∷ []) = cond (eqb (length p) 0) (read_as os es) (refusal 2 line at (length p))
events_from_before os es line at (p ∷ q ∷ ps) =
    cond (eqb (event_line_before (length es) os p).fault 0)
    (events_from_before os (es ++ (event_line_before (length es) os p).event ∷ []) (line + 1) (at + length p + 1) (q ∷ ps))
    (refusal (event_line_before (length es) os p).fault line at (length p))

unfoldable pub objects_from_before : List Object → ℕ → ℕ → List (List ℕ) → HistoryRead
objects_from_before os line at [] = refusal 2 line at 0
objects_from_before os line at (p ∷ []) = refusal 2 line at (length p)
objects_from_before os line at (p ∷ q ∷ ps) =
    cond (same p event_heading)
    (events_from_before os [] (line + 1) (at + length p + 1) (q ∷ ps))
    (cond (eqb (object_line (length os) p).fault 0)
    (objects_from_before (os ++ (object_line (length os) p).object ∷ []) (line + 1) (at + length p + 1) (q ∷ ps))
    (refusal (object_line (length os) p).fault line at (length p)))

unfoldable pub lines_from_before : List (List ℕ) → HistoryRead
lines_from_before [] = refusal 2 1 0 0
lines_from_before (p ∷ []) = refusal 2 1 0 (length p)
lines_from_before (p ∷ q ∷ ps) =
    cond (same p object_heading) (objects_from_before [] 2 (length p + 1) (q ∷ ps)) (refusal 2 1 0 (length p))

unfoldable pub read_history_before : List ℕ → HistoryRead
read_history_before text = cond (leb (length text) 16384) (lines_from_before (split 10 text)) (refusal 1 0 0 0)

-- ---- fault 16
-- The recorded answer was a list. (Where it is none now, any list will do: no history read as before has such an event.)
abbrev pub list_in : Option (List ℕ) → List ℕ
list_in none = []
list_in (some r) = r

-- "16 a visible answer that the replay doesn't give, at the first such event in the view".
unfoldable pub right_before : History → Contents → ℕ → Bool
right_before h s e = same_list (list_in (event h e).answer) (answered h s e)

abbrev pub first_wrong_before : History → (ℕ → Bool) → Contents → List ℕ → Option ℕ
first_wrong_before h vis s [] = none
first_wrong_before h vis s (e ∷ es) = or (found_if (vis e && not (right_before h s e)) e) (first_wrong_before h vis (changed h s e) es)

abbrev pub find16_before : Criterion → History → (ℕ → ℕ → Bool) → List (List ℕ) → Option Fault
find16_before w h R vs =
    lowest (replay_count w h)
    (λ k. map_fault (fault16 (view_number w h k)) (first_wrong_before h (visible w h k) (start h) (replayed w R vs k)))

unfoldable pub check_before : History → Certificate → Option Fault
check_before h c =
    or (find11 h (order h c) (past_count c.criterion h))
    (or (find12 (order h c) (past_count c.criterion h))
    (or (find13 h (order h c) (past_count c.criterion h))
    (or (find14 c.criterion h (order h c) c.views)
    (or (find15 c.criterion h (order h c) c.views)
    (or (find20 c.criterion h (order h c) c.views) (find16_before c.criterion h (order h c) c.views))))))

-- ---- the check of two texts
unfoldable pub check_text_before : List ℕ → List ℕ → Verdict
check_text_before history text = verdict_from check_before history (read_history_before history) text

-- ---- "texts without such an answer"
-- A line of six fields has `?` for the last, the answer of an event.
unfoldable pub loses_answer : List ℕ → Bool
loses_answer line = eqb (length (split 32 line)) 6 && is_lost (get_or (split 32 line) 5 [])

-- One of the lines does.
unfoldable pub some_lose : List (List ℕ) → Bool
some_lose [] = false
some_lose (p ∷ ps) = loses_answer p || some_lose ps

-- No line of the text does.
unfoldable pub NoLost : List ℕ → Type 0
NoLost text = some_lose (split 10 text) ≡ false
