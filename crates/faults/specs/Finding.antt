-- The fault that a finding stands for; `answer_of` of `criteria` gives the documents' number, view and event of each. And the other way, the
-- finding of a number, a view and an event.
use Rattle.std.specs.Prelude as code
use Rattle.std.specs.Prelude.{ℕ, Bool, true, false, cond, eqb, Result, Ok, Err}
use Rattle.std.proofs.Math.Option.{Option, none, some}
use Rattle.criteria.specs.Check.{Answer, Fault, fault11, fault12, fault13, fault14, fault15, fault16, fault20}
use Rattle.faults.specs.declared.finding.Finding.{Finding}
use Rattle.faults.specs.declared.finding.Finding.TheVariants.{LacksOwn, InOwnPast, LacksPast, NotItsSet, Against, Wrong, OutsidePast}

abbrev pub fault_in : Finding → Fault
fault_in (LacksOwn e) = fault11 e.0
fault_in (InOwnPast e) = fault12 e.0
fault_in (LacksPast e) = fault13 e.0
fault_in (NotItsSet v) = fault14 v
fault_in (Against v) = fault15 v
fault_in (Wrong v e) = fault16 v e.0
fault_in (OutsidePast v) = fault20 v

abbrev pub finding_of : Result (Unit {0}) Finding → Option Fault
finding_of (Ok u) = none
finding_of (Err f) = some (fault_in f)

-- The same of what may have been found.
abbrev pub found_of : code.Option Finding → Option Fault
found_of code.None = none
found_of (code.Some f) = some (fault_in f)

-- A fault was found.
abbrev pub is_found : Option Fault → Bool
is_found none = false
is_found (some f) = true

-- A number that may be missing, as a 32-bit number.
abbrev pub or_none : Option ℕ → ℕ
or_none none = 4294967295
or_none (some n) = n

-- The same with 0 for a number that is missing.
abbrev pub or_zero : Option ℕ → ℕ
or_zero none = 0
or_zero (some n) = n

-- What was found, by the answer's number, its view and its event.
abbrev pub finding_by : ℕ → ℕ → ℕ → Result (Unit {0}) Finding
finding_by number view event =
    cond (eqb number 11) (Err (LacksOwn record { 0 = event }))
    (cond (eqb number 12) (Err (InOwnPast record { 0 = event }))
    (cond (eqb number 13) (Err (LacksPast record { 0 = event }))
    (cond (eqb number 14) (Err (NotItsSet view))
    (cond (eqb number 15) (Err (Against view))
    (cond (eqb number 16) (Err (Wrong view record { 0 = event })) (cond (eqb number 20) (Err (OutsidePast view)) (Ok tt)))))))

abbrev pub finding_in : Answer → Result (Unit {0}) Finding
finding_in a = finding_by a.number (or_zero a.view) (or_zero a.event)
