-- What the reader keeps of a field: a fault of its layout, and else what it says, or that it is over a limit.
use Rattle.std.specs.Prelude.{ℕ, Option, Some, None, is_none, unwrap_or, Result, Ok, Err, cond, not, List, length, get_or, leb, ltb}
use Rattle.layout.specs.Word.{same, dash}
use Rattle.layout.specs.Number.{is_number, value}
use Rattle.layout.specs.List.{all_numbers, all_below}
use Rattle.history.specs.Record.{value_bound, no_object}
use Rattle.history.specs.Kinds.{op_of, has_op, takes_value, may_answer}
use Rattle.history.specs.Faults.{EventRead, answer_items, answer_said, event_layout, event_limits, faulty_event}
use Rattle.layout.specs.declared.list.ListFault.{ListFault}
use Rattle.layout.specs.declared.list.ListFault.TheVariants.{NotList, Over, Many}
use Rattle.history.specs.declared.fault.Fault.{Fault}
use Rattle.history.specs.declared.fault.Fault.TheVariants.{Layout, Limits}
use Rattle.history.specs.declared.record.Object.{Object}
use Rattle.history.specs.declared.record.Answer.{Answer}
use Rattle.history.specs.declared.event.Said.{Said}

-- What is wrong with a field that is no list of so many numbers below a bound.
abbrev pub listed_fault : ListFault → Fault
listed_fault NotList = Layout
listed_fault Over = Limits
listed_fault Many = Limits

-- A number below a bound.
unfoldable pub number_field : ℕ → List ℕ → Result (Result ℕ Fault) Fault
number_field bound f = cond (is_number f) (Ok (cond (ltb (value f) bound) (Ok (value f)) (Err Limits))) (Err Layout)

-- The same of a field that may be `-`, which says nothing.
unfoldable pub optional_field : ℕ → List ℕ → Result (Result (Option ℕ) Fault) Fault
optional_field bound f =
    cond (same f dash) (Ok (Ok None))
    (cond (is_number f) (Ok (cond (ltb (value f) bound) (Ok (Some (value f))) (Err Limits))) (Err Layout))

-- An answer; nothing where it has more than eight values.
unfoldable pub answer_short : List ℕ → Option Answer
answer_short s = cond (leb (length (answer_items s)) 8) (Some (answer_said s)) None

unfoldable pub answer_field : List ℕ → Result (Result (Option Answer) Fault) Fault
answer_field f =
    cond (all_numbers (answer_items f))
    (Ok
    (cond (all_below value_bound (answer_items f))
    (Ok (answer_short f))
    (Err Limits)))
    (Err Layout)

-- What an event's fields say that are laid out as they should be and within their limits; or their first fault.
unfoldable pub value_said : List ℕ → Option ℕ
value_said v = cond (same v dash) None (Some (value v))

unfoldable pub fields_said : ℕ → ℕ → List ℕ → List ℕ → List ℕ → List ℕ → List ℕ → List ℕ → Result Said Fault
fields_said own declared a p o w v s =
    cond (event_layout own a p o w v s)
    (cond (event_limits own declared p o v s)
    (Ok
    (record { process = record { 0 = value p }; object = value o; op = op_of w; value = value_said v; answer = answer_short s }))
    (Err Limits))
    (Err Layout)

-- The event that they say, of these objects, or what does not fit.
unfoldable pub answered : Object → Said → Option Answer → EventRead
answered object said None = faulty_event 5
answered object said (Some a) =
    cond (may_answer object said.op a)
    (record {
      fault = 0;
      event = record { process = said.process; object = said.object; op = said.op; value = unwrap_or said.value 0; answer = a };
    })
    (faulty_event 5)

unfoldable pub six_said : List Object → Said → EventRead
six_said os said =
    cond (has_op (get_or os said.object no_object).kind said.op)
    (cond (cond (takes_value said.op) (not (is_none said.value)) (is_none said.value))
    (answered (get_or os said.object no_object) said said.answer)
    (faulty_event 4))
    (faulty_event 4)
