-- The history record and the lists that it stands for.
use Rattle.std.specs.Prelude.{ℕ, ◌-◌, true, false, cond, List, ◌++◌, length, take, replicate}
use Rattle.std.proofs.Math.Option.{Option, none, some}
use Rattle.history.specs.declared.record.Kind.TheVariants.{Register}
use Rattle.history.specs.declared.record.Op.TheVariants.{Write}
use Rattle.history.specs.declared.record.Object.{Object}
use Rattle.history.specs.declared.record.Answer.{Answer}
use Rattle.history.specs.declared.record.Event.{Event}
use Rattle.history.specs.declared.record.History.{History}

-- A value is a number below this bound: 0 to 65,535.
abbrev pub value_bound : ℕ
value_bound = 65536

-- A list in an array of so many places; the places that it leaves are blank.
unfoldable pub pad : {A : Type 0} → ℕ → A → List A → List A
pad places blank xs = xs ++ replicate (places - length xs) blank

-- What stands in a place that is not used.
abbrev pub no_object : Object
no_object = record { kind = Register; width = 0 }

abbrev pub no_answer : Answer
no_answer = record { lost = false; count = 0; values = replicate 8 0 }

-- An answer that was lost, written `?` (document 02, T-01).
abbrev pub lost_answer : Answer
lost_answer = record { lost = true; count = 0; values = replicate 8 0 }

abbrev pub no_event : Event
no_event = record { process = record { 0 = 0 }; object = 0; op = Write; value = 0; answer = no_answer }

abbrev pub no_history : History
no_history = record { objects = replicate 16 no_object; declared = 0; events = replicate 64 no_event; count = 0 }

-- The record of an answer, of a history.
unfoldable pub answer_of : List ℕ → Answer
answer_of xs = record { lost = false; count = length xs; values = pad 8 0 xs }

unfoldable pub history_of : List Object → List Event → History
history_of os es = record { objects = pad 16 no_object os; declared = length os; events = pad 64 no_event es; count = length es }

-- The values of an answer, the objects and the events of a history.
abbrev pub values_in : Answer → List ℕ
values_in a = take a.count a.values

-- What was recorded of an answer: nothing where it was lost.
abbrev pub recorded_in : Answer → Option (List ℕ)
recorded_in a = cond a.lost none (some (values_in a))

abbrev pub objects_in : History → List Object
objects_in h = take h.declared h.objects

abbrev pub events_in : History → List Event
events_in h = take h.count h.events
