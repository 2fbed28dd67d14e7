-- The faults of a line of a history text (document 01, "Read a history"; document 02, T-01, T-02): on a line the first of 2, 3, 4 and 5.
use Rattle.std.specs.Prelude.{ℕ, Result, Ok, Err, Bool, true, cond, not, ◌&&◌, ◌||◌, List, [], length, get_or, eqb, leb, ltb}
use Rattle.layout.specs.Split.{split}
use Rattle.layout.specs.Word.{same, dash, question}
use Rattle.layout.specs.Number.{is_number, value, spell}
use Rattle.layout.specs.List.{items_of, all_numbers, all_below, numbers_of}
use Rattle.history.specs.Record.{value_bound, no_object, no_event, lost_answer, answer_of}
use Rattle.history.specs.Kinds.{is_kind, kind_of, is_op, op_of, has_width, width_limit, has_op, takes_value, may_answer}
use Rattle.history.specs.declared.record.Object.{Object}
use Rattle.history.specs.declared.record.Answer.{Answer}
use Rattle.history.specs.declared.record.Event.{Event}
use Rattle.history.specs.declared.fault.Fault.{Fault}
use Rattle.history.specs.declared.fault.Fault.TheVariants.{TooLong, Layout, Limits, Misfit, BadAnswer, NotRising}

-- The number of a fault.
abbrev pub fault_number : Fault → ℕ
fault_number TooLong = 1
fault_number Layout = 2
fault_number Limits = 3
fault_number Misfit = 4
fault_number BadAnswer = 5
fault_number NotRising = 6

-- The first fault of a line whose layout (2), limits (3), ops, values and widths (4) and answer's length (5) are in order or
-- not; 0 where all are.
unfoldable pub first_fault : Bool → Bool → Bool → Bool → ℕ
first_fault layout limits fits long = cond layout (cond limits (cond fits (cond long 0 5) 4) 3) 2

-- A value or a width: `-`, or a number.
unfoldable pub is_optional : List ℕ → Bool
is_optional f = same f dash || is_number f

-- Its number, and 0 for `-`.
unfoldable pub optional : List ℕ → ℕ
optional f = cond (same f dash) 0 (value f)

-- ---- the line of an object: its number, kind word, width, or `-` for all kinds but window and channel
-- The layout of the three fields of the object whose number is `own`.
unfoldable pub object_layout : ℕ → List ℕ → List ℕ → List ℕ → Bool
object_layout own a k w = same a (spell own) && is_kind k && is_optional w

-- No 17th object, no width of 0, and none over 64 on a channel and 8 on any other kind.
unfoldable pub object_limits : ℕ → List ℕ → List ℕ → Bool
object_limits own k w = ltb own 16 && (same w dash || (ltb 0 (value w) && leb (value w) (width_limit (kind_of k))))

-- A width on a window and a channel and on nothing else.
unfoldable pub object_fits : List ℕ → List ℕ → Bool
object_fits k w = cond (has_width (kind_of k)) (not (same w dash)) (same w dash)

-- The object of a line and fault 0, or its first fault and no object.
pub record ObjectRead : Type 0 where
  pub fault : ℕ
  pub object : Object

abbrev pub faulty_object : ℕ → ObjectRead
faulty_object fault = record { fault = fault; object = no_object }

abbrev pub object_with : ℕ → Object → ObjectRead
object_with fault o = cond (eqb fault 0) (record { fault = 0; object = o }) (faulty_object fault)

-- What a reader of an object's line answers, as the definitions say it.
abbrev pub object_read : Result Object Fault → ObjectRead
object_read (Ok o) = record { fault = 0; object = o }
object_read (Err f) = faulty_object (fault_number f)

unfoldable pub object_fault : ℕ → List ℕ → List ℕ → List ℕ → ℕ
object_fault own a k w = first_fault (object_layout own a k w) (object_limits own k w) (object_fits k w) true

-- What three fields are as the line of an object.
unfoldable pub object_three : ℕ → List ℕ → List ℕ → List ℕ → ObjectRead
object_three own a k w = object_with (object_fault own a k w) (record { kind = kind_of k; width = optional w })

unfoldable pub object_fields : ℕ → List (List ℕ) → ObjectRead
object_fields own fs = cond (eqb (length fs) 3) (object_three own (get_or fs 0 []) (get_or fs 1 []) (get_or fs 2 [])) (faulty_object 2)

-- What a line is as that of the object whose number is `own`.
unfoldable pub object_line : ℕ → List ℕ → ObjectRead
object_line own line = object_fields own (split 32 line)

-- ---- the answer field: `?` where the answer was lost (document 02, T-01), and else a list
unfoldable pub is_lost : List ℕ → Bool
is_lost s = same s question

-- Its items: `?` has none.
unfoldable pub answer_items : List ℕ → List (List ℕ)
answer_items s = cond (is_lost s) [] (items_of s)

-- The answer that the field says.
unfoldable pub answer_said : List ℕ → Answer
answer_said s = cond (is_lost s) lost_answer (answer_of (numbers_of s))

-- ---- the line of an event: its number, process, object, op, value and answer
unfoldable pub event_layout : ℕ → List ℕ → List ℕ → List ℕ → List ℕ → List ℕ → List ℕ → Bool
event_layout own a p o w v s = same a (spell own) && is_number p && is_number o && is_op w && is_optional v && all_numbers (answer_items s)

-- No 65th event, a process from 0 to 7, a declared object, values below their bound.
unfoldable pub event_limits : ℕ → ℕ → List ℕ → List ℕ → List ℕ → List ℕ → Bool
event_limits own declared p o v s =
    ltb own 64 && ltb (value p) 8 && ltb (value o) declared && (same v dash || ltb (value v) value_bound) && all_below value_bound (answer_items s)

-- An op that the kind has, and a value where the op takes one and nowhere else.
unfoldable pub event_fits : Object → List ℕ → List ℕ → Bool
event_fits object w v = has_op object.kind (op_of w) && cond (takes_value (op_of w)) (not (same v dash)) (same v dash)

-- An answer that the op can give. No op gives more than eight values.
unfoldable pub event_long : Object → List ℕ → List ℕ → Bool
event_long object w s = leb (length (answer_items s)) 8 && may_answer object (op_of w) (answer_said s)

-- The object that the field names.
abbrev pub object_named : List Object → List ℕ → Object
object_named os o = get_or os (value o) no_object

unfoldable pub event_fault : ℕ → List Object → List ℕ → List ℕ → List ℕ → List ℕ → List ℕ → List ℕ → ℕ
event_fault own os a p o w v s =
    first_fault (event_layout own a p o w v s) (event_limits own (length os) p o v s) (event_fits (object_named os o) w v)
    (event_long (object_named os o) w s)

-- The event of a line and fault 0, or its first fault and no event.
pub record EventRead : Type 0 where
  pub fault : ℕ
  pub event : Event

abbrev pub faulty_event : ℕ → EventRead
faulty_event fault = record { fault = fault; event = no_event }

abbrev pub event_with : ℕ → Event → EventRead
event_with fault e = cond (eqb fault 0) (record { fault = 0; event = e }) (faulty_event fault)

-- What a reader of an event's line answers, as the definitions say it.
abbrev pub event_read : Result Event Fault → EventRead
event_read (Ok e) = record { fault = 0; event = e }
event_read (Err f) = faulty_event (fault_number f)

-- The event that six fields say.
unfoldable pub event_said : List ℕ → List ℕ → List ℕ → List ℕ → List ℕ → Event
event_said p o w v s =
    record { process = record { 0 = value p }; object = value o; op = op_of w; value = optional v; answer = answer_said s }

-- What six fields are as the line of an event, in a history with these objects.
unfoldable pub event_six : ℕ → List Object → List ℕ → List ℕ → List ℕ → List ℕ → List ℕ → List ℕ → EventRead
event_six own os a p o w v s = event_with (event_fault own os a p o w v s) (event_said p o w v s)

unfoldable pub event_fields : ℕ → List Object → List (List ℕ) → EventRead
event_fields own os fs =
    cond (eqb (length fs) 6)
    (event_six own os (get_or fs 0 []) (get_or fs 1 []) (get_or fs 2 []) (get_or fs 3 []) (get_or fs 4 []) (get_or fs 5 []))
    (faulty_event 2)

-- What a line is as that of the event whose number is `own`.
unfoldable pub event_line : ℕ → List Object → List ℕ → EventRead
event_line own os line = event_fields own os (split 32 line)
