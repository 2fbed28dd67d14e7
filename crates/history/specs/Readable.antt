-- The limits of a record, and the texts that are readable: said with no reader.
use Rattle.std.specs.Prelude.{ℕ, ◌≤◌, ◌≡◌, Bool, true, false, cond, not, ◌&&◌, List, [], ◌∷◌, length, get_or, drop, eqb, leb, ltb}
use Rattle.history.specs.Record.{value_bound, no_object, values_in, objects_in, events_in}
use Rattle.history.specs.Kinds.{has_width, width_limit, has_op, takes_value, may_answer}
use Rattle.history.specs.HistoryText.{history_text}
use Rattle.history.specs.declared.record.Kind.{Kind}
use Rattle.history.specs.declared.record.Kind.TheVariants.{Register, Queue, Stack, Window, Channel}
use Rattle.history.specs.declared.record.Op.{Op}
use Rattle.history.specs.declared.record.Op.TheVariants.{Write, Read, Push, Pop, Peek}
use Rattle.history.specs.declared.record.Object.{Object}
use Rattle.history.specs.declared.record.Answer.{Answer}
use Rattle.history.specs.declared.record.Event.{Event}
use Rattle.history.specs.declared.record.History.{History}

-- ---- what is used
-- A window has a width of 1 to 8 and a channel one of 1 to 64, and no other kind has one.
unfoldable pub good_object : Object → Bool
good_object o = cond (has_width o.kind) (ltb 0 o.width && leb o.width (width_limit o.kind)) (eqb o.width 0)

unfoldable pub good_objects : List Object → Bool
good_objects [] = true
good_objects (o ∷ os) = good_object o && good_objects os

unfoldable pub all_less : ℕ → List ℕ → Bool
all_less bound [] = true
all_less bound (x ∷ xs) = ltb x bound && all_less bound xs

unfoldable pub all_zero : List ℕ → Bool
all_zero [] = true
all_zero (x ∷ xs) = eqb x 0 && all_zero xs

-- An answer that the op can give, of at most eight values, and zeros in the other places.
unfoldable pub good_answer : Object → Op → Answer → Bool
good_answer object op a =
    leb a.count 8 && may_answer object op a && all_less value_bound (values_in a)
    && eqb (length a.values) 8 && all_zero (drop a.count a.values)

-- A value where the op takes one, and 0 where it takes none.
unfoldable pub good_value : Op → ℕ → Bool
good_value op v = cond (takes_value op) (ltb v value_bound) (eqb v 0)

-- A process from 0 to 7, a declared object, an op that its kind has, and its value and answer.
unfoldable pub good_event : List Object → Event → Bool
good_event os e =
    ltb e.process.0 8 && ltb e.object (length os) && has_op (get_or os e.object no_object).kind e.op
    && good_value e.op e.value && good_answer (get_or os e.object no_object) e.op e.answer

unfoldable pub good_events : List Object → List Event → Bool
good_events os [] = true
good_events os (e ∷ es) = good_event os e && good_events os es

-- ---- what is not used
abbrev pub is_register : Kind → Bool
is_register Register = true
is_register Queue = false
is_register Stack = false
is_register Window = false
is_register Channel = false

abbrev pub is_write : Op → Bool
is_write Write = true
is_write Read = false
is_write Push = false
is_write Pop = false
is_write Peek = false

unfoldable pub blank_object : Object → Bool
blank_object o = is_register o.kind && eqb o.width 0

unfoldable pub blank_objects : List Object → Bool
blank_objects [] = true
blank_objects (o ∷ os) = blank_object o && blank_objects os

unfoldable pub blank_event : Event → Bool
blank_event e =
    eqb e.process.0 0 && eqb e.object 0 && is_write e.op && eqb e.value 0
    && not e.answer.lost && eqb e.answer.count 0 && eqb (length e.answer.values) 8 && all_zero e.answer.values

unfoldable pub blank_events : List Event → Bool
blank_events [] = true
blank_events (e ∷ es) = blank_event e && blank_events es

-- ---- the whole
-- A record within its limits: 0 to 16 objects and 0 to 64 events, and zeros in every place that is not used.
unfoldable pub within : History → Bool
within h =
    leb h.declared 16 && leb h.count 64 && eqb (length h.objects) 16 && eqb (length h.events) 64
    && good_objects (objects_in h) && good_events (objects_in h) (events_in h)
    && blank_objects (drop h.declared h.objects) && blank_events (drop h.count h.events)

-- A text is readable: it is the text of some record within its limits, and at most 16,384 bytes long.
pub record Readable (text : List ℕ) : Type 0 where
  pub history : History
  pub fits : within history ≡ true
  pub says : history_text history ≡ text
  pub short : length text ≤ 16384
