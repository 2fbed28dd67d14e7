-- What a history record within its limits is, as one record of facts: what a reader guarantees to the layers above. Assumes nothing.
use Prim.Native.Nat.{ℕ, zero, suc, ◌≤◌, ◌<◌}
use native.Mathlib.Nat.{not-suc-le-zero}
use native.Mathlib.Omega.{arith}
use mathlib.Core.Path.{◌≡◌}
use mathlib.Core.Bool.{Bool, true, ◌&&◌}
use mathlib.Core.List.{List, [], ◌∷◌}
use lib.ListN.{length, get_or, drop}
use lib.Dec.{eqb, leb, ltb}
use borrow.Author.Tests.{eqb-true, leb-true, ltb-true}
use Rattle.layout.proofs.Cases.{and_left, and_right}
use Rattle.history.specs.declared.record.Object.{Object}
use Rattle.history.specs.declared.record.Event.{Event}
use Rattle.history.specs.declared.record.History.{History}
use Rattle.history.specs.Record.{value_bound, no_object, no_event, values_in, objects_in, events_in}
use Rattle.history.specs.Kinds.{has_op, may_answer}
use Rattle.history.specs.Readable.{good_object, good_objects, all_less, all_zero, good_value, good_answer, good_event, good_events, within}
use Rattle.history.proofs.WithinLaws.{within-limits}

-- an event of a history with the objects os: a process below 8, a declared object, an op that the kind has, its value, and an
-- answer of at most eight values that the op can give
pub record SoundEvent (os : List Object) (e : Event) : Type 0 where
  pub process : e.process.0 < 8
  pub declared : e.object < length os
  pub op : has_op (get_or os e.object no_object).kind e.op ≡ true
  pub value : good_value e.op e.value ≡ true
  pub few : e.answer.count ≤ 8
  pub answer : may_answer (get_or os e.object no_object) e.op e.answer ≡ true
  pub values : all_less value_bound (values_in e.answer) ≡ true
  pub places : length e.answer.values ≡ 8

-- an event within its limits: that, and zeros behind the values of its answer
pub record GoodEvent (os : List Object) (e : Event) : Type 0 where
  pub sound : SoundEvent os e
  pub rest : all_zero (drop e.answer.count e.answer.values) ≡ true

-- a history: the counts, and what each object and each event is
pub record Sound (h : History) : Type 0 where
  pub declared : h.declared ≤ 16
  pub count : h.count ≤ 64
  pub objects : length (objects_in h) ≡ h.declared
  pub events : length (events_in h) ≡ h.count
  pub object : (i : ℕ) → i < h.declared → good_object (get_or (objects_in h) i no_object) ≡ true
  pub event : (i : ℕ) → i < h.count → SoundEvent (objects_in h) (get_or (events_in h) i no_event)

pub event-good : (os : List Object) (e : Event) → good_event os e ≡ true → GoodEvent os e
unfolding good_event good_answer
event-good os e g =
    let o : Object = get_or os e.object no_object in
    let a = e.answer in
    let p₁ : Bool = ltb e.process.0 8 in
    let p₂ : Bool = ltb e.object (length os) in
    let p₃ : Bool = has_op o.kind e.op in
    let p₄ : Bool = good_value e.op e.value in
    let b₁ : Bool = leb a.count 8 in
    let b₂ : Bool = may_answer o e.op a in
    let b₃ : Bool = all_less value_bound (values_in a) in
    let b₄ : Bool = eqb (length a.values) 8 in
    let g₄ = and_left (p₁ && p₂ && p₃ && p₄) (good_answer o e.op a) g in
    let g₃ = and_left (p₁ && p₂ && p₃) p₄ g₄ in
    let g₂ = and_left (p₁ && p₂) p₃ g₃ in
    let h₅ = and_right (p₁ && p₂ && p₃ && p₄) (good_answer o e.op a) g in
    let h₄ = and_left (b₁ && b₂ && b₃ && b₄) (all_zero (drop a.count a.values)) h₅ in
    let h₃ = and_left (b₁ && b₂ && b₃) b₄ h₄ in
    let h₂ = and_left (b₁ && b₂) b₃ h₃ in
    record {
      sound = record {
        process = ltb-true e.process.0 8 (and_left p₁ p₂ g₂);
        declared = ltb-true e.object (length os) (and_right p₁ p₂ g₂);
        op = and_right (p₁ && p₂) p₃ g₃;
        value = and_right (p₁ && p₂ && p₃) p₄ g₄;
        few = leb-true a.count 8 (and_left b₁ b₂ h₂);
        answer = and_right b₁ b₂ h₂;
        values = and_right (b₁ && b₂) b₃ h₃;
        places = eqb-true (length a.values) 8 (and_right (b₁ && b₂ && b₃) b₄ h₄);
      };
      rest = and_right (b₁ && b₂ && b₃ && b₄) (all_zero (drop a.count a.values)) h₅;
    }

pub sound-event : (os : List Object) (e : Event) → good_event os e ≡ true → SoundEvent os e
sound-event os e g = (event-good os e g).sound

object-at : (os : List Object) (i : ℕ) → i < length os → good_objects os ≡ true → good_object (get_or os i no_object) ≡ true
unfolding good_objects
object-at [] i h g = absurd (not-suc-le-zero h)
object-at (o ∷ os) zero h g = and_left (good_object o) (good_objects os) g
object-at (o ∷ os) (suc i) h g = object-at os i (omega arith) (and_right (good_object o) (good_objects os) g)

event-at : (os : List Object) (es : List Event) (i : ℕ) → i < length es → good_events os es ≡ true → good_event os (get_or es i no_event) ≡ true
unfolding good_events
event-at os [] i h g = absurd (not-suc-le-zero h)
event-at os (e ∷ es) zero h g = and_left (good_event os e) (good_events os es) g
event-at os (e ∷ es) (suc i) h g = event-at os es i (omega arith) (and_right (good_event os e) (good_events os es) g)

pub within-sound : (h : History) → within h ≡ true → Sound h
within-sound h w =
    let l = within-limits h w in
    record {
      declared = l.declared;
      count = l.count;
      objects = l.few;
      events = l.all;
      object = λ i k. object-at (objects_in h) i (omega (arith, l.few)) l.objects;
      event = λ i k. sound-event (objects_in h) (get_or (events_in h) i no_event) (event-at (objects_in h) (events_in h) i (omega (arith, l.all)) l.events);
    }
