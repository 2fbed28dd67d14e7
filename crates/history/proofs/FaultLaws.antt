-- Laws of the first fault of a line. Assumes nothing.
use Prim.Native.Nat.{ℕ}
use native.Mathlib.Omega.{arith}
use mathlib.Core.Path.{◌≡◌, refl}
use mathlib.Core.Bool.{Bool, true, false, cond}
use mathlib.Core.List.{List, []}
use lib.ListN.{length, get_or}
use lib.Dec.{eqb}
use Rattle.layout.specs.Split.{split}
use Rattle.layout.proofs.Cases.{in-either}
use Rattle.history.specs.declared.fault.Fault as faulty
use Rattle.history.specs.declared.fault.Fault.TheVariants.{TooLong, Layout, Limits, Misfit, BadAnswer, NotRising}
use Rattle.history.specs.declared.record.Object.{Object}
use Rattle.history.specs.declared.record.Event.{Event}
use Rattle.history.specs.Faults.{fault_number, first_fault, ObjectRead, faulty_object, object_with, object_fault, object_three, object_fields, object_line, EventRead, faulty_event, event_with, event_said, event_fault, event_six, event_fields, event_line}

-- ---- the first fault
-- no fault
pub record InOrder (l m f g : Bool) : Type 0 where
  pub layout : l ≡ true
  pub limits : m ≡ true
  pub fits : f ≡ true
  pub long : g ≡ true

pub fault-none : (l m f g : Bool) → first_fault l m f g ≡ 0 → InOrder l m f g
unfolding first_fault
fault-none true true true true e = record { layout = refl; limits = refl; fits = refl; long = refl }
fault-none true true true false e = absurd (omega arith)
fault-none true true false g e = absurd (omega arith)
fault-none true false f g e = absurd (omega arith)
fault-none false m f g e = absurd (omega arith)

pub fault-zero : {l m f g : Bool} → InOrder l m f g → first_fault l m f g ≡ 0
unfolding first_fault
fault-zero {l} {m} {f} {g} o = rw (o.layout, o.limits, o.fits, o.long)

-- ---- the fault of a number
abbrev pub fault_of : ℕ → faulty.Fault
fault_of n =
    cond (eqb n 1) TooLong (cond (eqb n 2) Layout (cond (eqb n 3) Limits (cond (eqb n 4) Misfit (cond (eqb n 5) BadAnswer NotRising))))

pub fault-back : (f : faulty.Fault) → fault_of (fault_number f) ≡ f
fault-back TooLong = refl
fault-back Layout = refl
fault-back Limits = refl
fault-back Misfit = refl
fault-back BadAnswer = refl
fault-back NotRising = refl

-- a number is 0 or that of a fault
abbrev pub IsFault : ℕ → Type 0
IsFault n = (n ≡ 0 → ⊥) → fault_number (fault_of n) ≡ n

pub fault_no : IsFault 0
fault_no n = absurd (n refl)

fault-first : (l m f g : Bool) → IsFault (first_fault l m f g)
unfolding first_fault
fault-first true true true true = fault_no
fault-first true true true false = λ n. refl
fault-first true true false g = λ n. refl
fault-first true false f g = λ n. refl
fault-first false m f g = λ n. refl

-- ---- the fault of a line
abbrev ObjectFault : ObjectRead → Type 0
ObjectFault r = IsFault r.fault

object-said : (n : ℕ) (o : Object) → IsFault n → IsFault (object_with n o).fault
object-said n o h = in-either ObjectFault (eqb n 0) (record { fault = 0; object = o }) (faulty_object n) fault_no h

pub fault-object : (own : ℕ) (line : List ℕ) → IsFault (object_line own line).fault
unfolding object_line object_fields object_three object_fault
fault-object own line =
    let fs = split 32 line in
    in-either ObjectFault (eqb (length fs) 3) (object_three own (get_or fs 0 []) (get_or fs 1 []) (get_or fs 2 [])) (faulty_object 2)
    (object-said (object_fault own (get_or fs 0 []) (get_or fs 1 []) (get_or fs 2 [])) _ (fault-first _ _ _ _))
    (λ n. refl)

abbrev EventFault : EventRead → Type 0
EventFault r = IsFault r.fault

event-said : (n : ℕ) (e : Event) → IsFault n → IsFault (event_with n e).fault
event-said n e h = in-either EventFault (eqb n 0) (record { fault = 0; event = e }) (faulty_event n) fault_no h

event-six : (own : ℕ) (os : List Object) (a p o w v s : List ℕ) → IsFault (event_six own os a p o w v s).fault
unfolding event_six event_fault
event-six own os a p o w v s = event-said (event_fault own os a p o w v s) (event_said p o w v s) (fault-first _ _ _ _)

pub fault-event : (own : ℕ) (os : List Object) (line : List ℕ) → IsFault (event_line own os line).fault
unfolding event_line event_fields
fault-event own os line =
    let fs = split 32 line in
    in-either EventFault (eqb (length fs) 6)
    (event_six own os (get_or fs 0 []) (get_or fs 1 []) (get_or fs 2 []) (get_or fs 3 []) (get_or fs 4 []) (get_or fs 5 []))
    (faulty_event 2)
    (event-six own os (get_or fs 0 []) (get_or fs 1 []) (get_or fs 2 []) (get_or fs 3 []) (get_or fs 4 []) (get_or fs 5 []))
    (λ n. refl)
