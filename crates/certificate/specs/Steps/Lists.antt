-- What the reader keeps of a line: its list and fault 0, or its first fault and no list.
use Rattle.std.specs.Prelude.{ℕ, Bool, true, false, cond, List, eqb, Result, Ok, Err}
use Rattle.layout.specs.List.{numbers_of}
use Rattle.history.specs.declared.fault.Fault.{Fault}
use Rattle.history.specs.Faults.{fault_number}
use Rattle.certificate.specs.declared.list.Sort.{Sort}
use Rattle.certificate.specs.declared.list.Sort.TheVariants.{Past, View}
use Rattle.certificate.specs.declared.record.EventList.{EventList}
use Rattle.certificate.specs.Record.{no_list, event_list_of}
use Rattle.certificate.specs.Faults.{pair_fault, list_fault, list_said}

-- A list of the sort is a past, and has to rise.
abbrev pub is_past : Sort → Bool
is_past Past = true
is_past View = false

pub record ListLine : Type 0 where
  pub fault : ℕ
  pub list : EventList

-- The same as the reader answers it.
abbrev pub list_line_of : Result EventList Fault → ListLine
list_line_of (Ok l) = record { fault = 0; list = l }
list_line_of (Err f) = record { fault = fault_number f; list = no_list }

abbrev pub list_with : ℕ → List ℕ → ListLine
list_with fault xs = cond (eqb fault 0) (record { fault = 0; list = event_list_of xs }) (record { fault = fault; list = no_list })

unfoldable pub pair_read : Bool → ℕ → ℕ → List ℕ → List ℕ → ListLine
pair_read past count own a s = list_with (pair_fault past count own a s) (numbers_of s)

unfoldable pub list_read : Bool → ℕ → ℕ → List ℕ → ListLine
list_read past count own line = list_with (list_fault past count own line) (list_said line)
