-- The check of a certificate (document 01, "Check"): faults 11 to 16 in order, and 20 "after 15 and before 16" (document 02, T-06),
-- "each over all events or views before the next, lowest number first".
use Rattle.std.specs.Prelude.{Bool, true, not, ◌&&◌, List, [], ◌∷◌, ℕ, eqb, ltb, length, get_or}
use Rattle.std.proofs.Math.Option.{Option, none, some}
use Rattle.certificate.specs.declared.record.Criterion.{Criterion}
use Rattle.criteria.specs.Tests.{any, or, found_if, lowest, one, count, same_list}
use Rattle.criteria.specs.History.{History, size, event, program_order, own}
use Rattle.criteria.specs.Replay.{Contents, start, answered, changed}
use Rattle.criteria.specs.Certificate.{Certificate, past_count, view_count, view_number, view_set, strict_count, replay_count, replayed, visible, order}

-- A fault with what it carries: "11 to 13 carry the event, 14 and 15 the view, 16 both"; "20 carries the view".
pub data Fault : Type 0 where
  fault11 fault12 fault13 fault14 fault15 fault20 : ℕ → Fault
  fault16 : ℕ → ℕ → Fault

-- The documents' number of an answer, and its view and event. "0 is acceptance, and only then."
pub record Answer : Type 0 where
  pub number : ℕ
  pub view : Option ℕ
  pub event : Option ℕ

abbrev pub answer_of : Option Fault → Answer
answer_of none = record { number = 0; view = none; event = none }
answer_of (some (fault11 e)) = record { number = 11; view = none; event = some e }
answer_of (some (fault12 e)) = record { number = 12; view = none; event = some e }
answer_of (some (fault13 e)) = record { number = 13; view = none; event = some e }
answer_of (some (fault14 v)) = record { number = 14; view = some v; event = none }
answer_of (some (fault15 v)) = record { number = 15; view = some v; event = none }
answer_of (some (fault20 v)) = record { number = 20; view = some v; event = none }
answer_of (some (fault16 v e)) = record { number = 16; view = some v; event = some e }

-- ---- the tests
-- "11 past(e) lacks an earlier event of its process".
unfoldable pub lacks_own : History → (ℕ → ℕ → Bool) → ℕ → Bool
lacks_own h R e = any (size h) (λ f. program_order h f e && not (R f e))

-- "13 f in past(e), g in past(f), g not in past(e)", for some f and g.
unfoldable pub lacks_past : ℕ → (ℕ → ℕ → Bool) → ℕ → Bool
lacks_past n R e = any n (λ f. R f e && any n (λ g. R g f && not (R g e)))

-- "14 a view that isn't its set, each once".
unfoldable pub not_its_set : ℕ → (ℕ → Bool) → List ℕ → Bool
not_its_set n P v = any n (λ e. not (eqb (count e v) (one (P e))))

-- "15 a view against its order": what comes before another event does not stand before it.
unfoldable pub against : (ℕ → ℕ → Bool) → List ℕ → Bool
against R v = any (length v) (λ i. any (length v) (λ j. R (get_or v i 0) (get_or v j 0) && not (ltb i j)))

-- "20 .. a view in which an event outside the past stands before an own event" (document 02, T-06).
unfoldable pub outside_past : (ℕ → ℕ → Bool) → (ℕ → Bool) → List ℕ → Bool
outside_past R P v = any (length v) (λ j. any j (λ i. P (get_or v j 0) && not (R (get_or v i 0) (get_or v j 0))))

-- `Fits` as a test: nothing is asked of an answer that was lost.
abbrev pub fits : Option (List ℕ) → List ℕ → Bool
fits none a = true
fits (some r) a = same_list r a

-- "16 a visible answer that the replay doesn't give, at the first such event in the view".
unfoldable pub right : History → Contents → ℕ → Bool
right h s e = fits (event h e).answer (answered h s e)

abbrev pub first_wrong : History → (ℕ → Bool) → Contents → List ℕ → Option ℕ
first_wrong h vis s [] = none
first_wrong h vis s (e ∷ es) = or (found_if (vis e && not (right h s e)) e) (first_wrong h vis (changed h s e) es)

-- ---- each fault at the lowest event or view that has it
-- `among` is how many events have a past: all of them, or none. "pram and sequential have no 11 to 13."
abbrev pub find11 : History → (ℕ → ℕ → Bool) → ℕ → Option Fault
find11 h R among = lowest among (λ e. found_if (lacks_own h R e) (fault11 e))

-- "12 e in past(e)".
abbrev pub find12 : (ℕ → ℕ → Bool) → ℕ → Option Fault
find12 R among = lowest among (λ e. found_if (R e e) (fault12 e))

abbrev pub find13 : History → (ℕ → ℕ → Bool) → ℕ → Option Fault
find13 h R among = lowest among (λ e. found_if (lacks_past (size h) R e) (fault13 e))

abbrev pub find14 : Criterion → History → (ℕ → ℕ → Bool) → List (List ℕ) → Option Fault
find14 w h R vs = lowest (view_count w h) (λ k. found_if (not_its_set (size h) (view_set w h R k) (get_or vs k [])) (fault14 (view_number w h k)))

abbrev pub find15 : Criterion → History → (ℕ → ℕ → Bool) → List (List ℕ) → Option Fault
find15 w h R vs = lowest (view_count w h) (λ k. found_if (against R (get_or vs k [])) (fault15 (view_number w h k)))

-- The own events of a view are those of the process that numbers it.
abbrev pub find20 : Criterion → History → (ℕ → ℕ → Bool) → List (List ℕ) → Option Fault
find20 w h R vs =
    lowest (strict_count w h) (λ k. found_if (outside_past R (own h (view_number w h k)) (get_or vs k [])) (fault20 (view_number w h k)))

-- "converge: the lowest e". Its replay k has only e = k visible, so its first wrong event is k.
abbrev pub map_fault : (ℕ → Fault) → Option ℕ → Option Fault
map_fault f none = none
map_fault f (some e) = some (f e)

abbrev pub find16 : Criterion → History → (ℕ → ℕ → Bool) → List (List ℕ) → Option Fault
find16 w h R vs =
    lowest (replay_count w h)
    (λ k. map_fault (fault16 (view_number w h k)) (first_wrong h (visible w h k) (start h) (replayed w R vs k)))

-- The faults in order; none is acceptance.
unfoldable pub check : History → Certificate → Option Fault
check h c =
    or (find11 h (order h c) (past_count c.criterion h))
    (or (find12 (order h c) (past_count c.criterion h))
    (or (find13 h (order h c) (past_count c.criterion h))
    (or (find14 c.criterion h (order h c) c.views)
    (or (find15 c.criterion h (order h c) c.views)
    (or (find20 c.criterion h (order h c) c.views) (find16 c.criterion h (order h c) c.views))))))
