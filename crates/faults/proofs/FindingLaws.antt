-- A finding and the answer that it stands for tell each other. Assumes nothing.
use Prim.Native.Nat.{ℕ}
use mathlib.Core.Path.{◌≡◌, refl, sym, ap, ◌∙◌}
use mathlib.Core.Option.{Option, none, some}
use Rattle.std.specs.Prelude as code
use Rattle.std.specs.Prelude.{Result, Ok, Err}
use Rattle.layout.specs.Options.{option_in}
use Rattle.history.specs.declared.record.EventNo.{EventNo}
use Rattle.criteria.specs.Check.{Fault, fault11, fault12, fault13, fault14, fault15, fault16, fault20, answer_of}
use Rattle.faults.specs.declared.finding.Finding.{Finding}
use Rattle.faults.specs.declared.finding.Finding.TheVariants.{LacksOwn, InOwnPast, LacksPast, NotItsSet, Against, Wrong, OutsidePast}
use Rattle.replays.specs.Replay.{found_event}
use Rattle.faults.specs.Finding.{finding_of, found_of, finding_in}

-- the answer of a finding tells it back
pub finding-back : (f : Result (Unit {0}) Finding) → f ≡ finding_in (answer_of (finding_of f))
finding-back (Ok u) = refl
finding-back (Err (LacksOwn e)) = refl
finding-back (Err (InOwnPast e)) = refl
finding-back (Err (LacksPast e)) = refl
finding-back (Err (NotItsSet v)) = refl
finding-back (Err (Against v)) = refl
finding-back (Err (Wrong v e)) = refl
finding-back (Err (OutsidePast v)) = refl

-- and the finding of an answer tells the answer back
pub fault-back : (x : Option Fault) → finding_of (finding_in (answer_of x)) ≡ x
fault-back none = refl
fault-back (some (fault11 e)) = refl
fault-back (some (fault12 e)) = refl
fault-back (some (fault13 e)) = refl
fault-back (some (fault14 v)) = refl
fault-back (some (fault15 v)) = refl
fault-back (some (fault16 v e)) = refl
fault-back (some (fault20 v)) = refl

-- ---- the arms of what may have been found
module _ (f : code.Option Finding) where
  pub view-at : (g : code.Option Finding) (n : ℕ) → f ≡ g → (answer_of (found_of g)).view ≡ some n → option_in (code.Some n) ≡ (answer_of (found_of f)).view
  view-at g n q e = sym (ap (λ (x : code.Option Finding). (answer_of (found_of x)).view) q ∙ e)

  pub event-at : (g : code.Option Finding) (e : EventNo) → f ≡ g → (answer_of (found_of g)).event ≡ some e.0 → found_event (code.Some e) ≡ (answer_of (found_of f)).event
  event-at g e q is = sym (ap (λ (x : code.Option Finding). (answer_of (found_of x)).event) q ∙ is)
