-- Laws of a record within its limits: it is the record of its objects and events. Assumes nothing.
use Prim.Native.Nat.{ℕ, zero, suc, ◌-◌, ◌≤◌}
use native.Mathlib.Omega.{arith}
use mathlib.Core.Path.{◌≡◌, refl, sym, ap, ap₂, ◌∙◌}
use mathlib.Core.Bool.{Bool, true, false, not, ◌&&◌, false≢true}
use mathlib.Core.List.{List, [], ◌∷◌, ◌++◌}
use lib.ListN.{length, take, drop, replicate, length-drop, take-append-drop}
use lib.Seq.{length-take-le, drop-append_seam}
use lib.Dec.{eqb, leb}
use borrow.Author.Tests.{eqb-true, leb-true, le-leb, not-true}
use Rattle.layout.proofs.Cases.{and_left, and_right}
use Rattle.history.specs.declared.record.Kind.{Kind}
use Rattle.history.specs.declared.record.Kind.TheVariants.{Register, Queue, Stack, Window, Channel}
use Rattle.history.specs.declared.record.Op.{Op}
use Rattle.history.specs.declared.record.Op.TheVariants.{Write, Read, Push, Pop, Peek}
use Rattle.history.specs.declared.record.Object.{Object}
use Rattle.history.specs.declared.record.Event.{Event}
use Rattle.history.specs.declared.record.History.{History}
use Rattle.history.specs.Record.{pad, no_object, no_event, history_of, objects_in, events_in}
use Rattle.history.specs.Readable.{good_objects, good_events, all_zero, is_register, is_write, blank_object, blank_objects, blank_event, blank_events, within}
use Rattle.history.proofs.PadLaws.{pad-length, take-pad}

-- ---- what is not used is blank
pub zero_is : (xs : List ℕ) → all_zero xs ≡ true → xs ≡ replicate (length xs) 0
unfolding all_zero
zero_is [] e = refl
zero_is (x ∷ xs) e =
    ap₂ {C = List ℕ} ◌∷◌ (eqb-true x 0 (and_left (eqb x 0) (all_zero xs) e)) (zero_is xs (and_right (eqb x 0) (all_zero xs) e))

pub zeros : (n : ℕ) → all_zero (replicate n 0) ≡ true
unfolding all_zero
zeros zero = refl
zeros (suc n) = zeros n

register-is : (k : Kind) → is_register k ≡ true → k ≡ Register
register-is Register e = refl
register-is Queue e = absurd (false≢true e)
register-is Stack e = absurd (false≢true e)
register-is Window e = absurd (false≢true e)
register-is Channel e = absurd (false≢true e)

write-is : (op : Op) → is_write op ≡ true → op ≡ Write
write-is Write e = refl
write-is Read e = absurd (false≢true e)
write-is Push e = absurd (false≢true e)
write-is Pop e = absurd (false≢true e)
write-is Peek e = absurd (false≢true e)

object-is : (o : Object) → blank_object o ≡ true → o ≡ no_object
unfolding blank_object
object-is o e =
    ap₂ {C = Object} (λ (k : Kind) (w : ℕ). record { kind = k; width = w })
    (register-is o.kind (and_left (is_register o.kind) (eqb o.width 0) e))
    (eqb-true o.width 0 (and_right (is_register o.kind) (eqb o.width 0) e))

event-parts : (p o : ℕ) (op : Op) (v : ℕ) (l : Bool) (c : ℕ) (vs : List ℕ)
    → p ≡ 0 → o ≡ 0 → op ≡ Write → v ≡ 0 → l ≡ false → c ≡ 0 → vs ≡ replicate 8 0
    → ◌≡◌ {A = Event}
    (record { process = record { 0 = p }; object = o; op = op; value = v; answer = record { lost = l; count = c; values = vs } })
    no_event
event-parts p o op v l c vs h₁ h₂ h₃ h₄ h₅ h₆ h₇ = rw (h₁, h₂, h₃, h₄, h₅, h₆, h₇)

event-is : (e : Event) → blank_event e ≡ true → e ≡ no_event
unfolding blank_event
event-is e h =
    let vs : List ℕ = e.answer.values in
    let b₂ : Bool = eqb e.process.0 0 && eqb e.object 0 in
    let b₃ : Bool = b₂ && is_write e.op in
    let b₄ : Bool = b₃ && eqb e.value 0 in
    let b₅ : Bool = b₄ && not e.answer.lost in
    let b₆ : Bool = b₅ && eqb e.answer.count 0 in
    let b₇ : Bool = b₆ && eqb (length vs) 8 in
    let h₇ = and_left b₇ (all_zero vs) h in
    let h₆ = and_left b₆ (eqb (length vs) 8) h₇ in
    let h₅ = and_left b₅ (eqb e.answer.count 0) h₆ in
    let h₄ = and_left b₄ (not e.answer.lost) h₅ in
    let h₃ = and_left b₃ (eqb e.value 0) h₄ in
    let h₂ = and_left b₂ (is_write e.op) h₃ in
    event-parts e.process.0 e.object e.op e.value e.answer.lost e.answer.count vs
    (eqb-true e.process.0 0 (and_left (eqb e.process.0 0) (eqb e.object 0) h₂))
    (eqb-true e.object 0 (and_right (eqb e.process.0 0) (eqb e.object 0) h₂))
    (write-is e.op (and_right b₂ (is_write e.op) h₃))
    (eqb-true e.value 0 (and_right b₃ (eqb e.value 0) h₄))
    (not-true e.answer.lost (and_right b₄ (not e.answer.lost) h₅))
    (eqb-true e.answer.count 0 (and_right b₅ (eqb e.answer.count 0) h₆))
    (zero_is vs (and_right b₇ (all_zero vs) h)
    ∙ ap (λ (k : ℕ). replicate k 0) (eqb-true (length vs) 8 (and_right b₆ (eqb (length vs) 8) h₇)))

objects-blank : (os : List Object) → blank_objects os ≡ true → os ≡ replicate (length os) no_object
unfolding blank_objects
objects-blank [] e = refl
objects-blank (o ∷ os) e =
    ap₂ {C = List Object} ◌∷◌ (object-is o (and_left (blank_object o) (blank_objects os) e))
    (objects-blank os (and_right (blank_object o) (blank_objects os) e))

events-blank : (es : List Event) → blank_events es ≡ true → es ≡ replicate (length es) no_event
unfolding blank_events
events-blank [] h = refl
events-blank (e ∷ es) h =
    ap₂ {C = List Event} ◌∷◌ (event-is e (and_left (blank_event e) (blank_events es) h))
    (events-blank es (and_right (blank_event e) (blank_events es) h))

blank-objects : (n : ℕ) → blank_objects (replicate n no_object) ≡ true
unfolding blank_objects blank_object
blank-objects zero = refl
blank-objects (suc n) = blank-objects n

blank-events : (n : ℕ) → blank_events (replicate n no_event) ≡ true
unfolding blank_events blank_event all_zero
blank-events zero = refl
blank-events (suc n) = blank-events n

-- ---- an array whose places from n on are blank is its first n elements in an array
module _ {A : Type 0} (places : ℕ) (blank : A) where
  pub padded : (xs : List A) (n : ℕ) → length xs ≡ places → n ≤ places
      → drop n xs ≡ replicate (length (drop n xs)) blank → xs ≡ pad places blank (take n xs)
  unfolding pad
  padded xs n l h d =
      let k : length (drop n xs) ≡ places - length (take n xs) =
      omega (arith, length-drop n xs, length-take-le n xs (omega arith)) in
      sym (take-append-drop n xs)
      ∙ ap (λ (r : List A). take n xs ++ r) (d ∙ ap (λ (m : ℕ). replicate m blank) k)

  pub drop-pad : (xs : List A) → drop (length xs) (pad places blank xs) ≡ replicate (places - length xs) blank
  unfolding pad
  drop-pad xs = drop-append_seam xs (replicate (places - length xs) blank)

-- ---- the objects and the events of the record that is made of them
pub objects-in : (os : List Object) (es : List Event) → objects_in (history_of os es) ≡ os
unfolding history_of
objects-in os es = take-pad 16 no_object os

pub events-in : (os : List Object) (es : List Event) → events_in (history_of os es) ≡ es
unfolding history_of
events-in os es = take-pad 64 no_event es

-- ---- what the limits say
pub record Limits (h : History) : Type 0 where
  pub declared : h.declared ≤ 16
  pub count : h.count ≤ 64
  pub objects : good_objects (objects_in h) ≡ true
  pub events : good_events (objects_in h) (events_in h) ≡ true
  pub few : length (objects_in h) ≡ h.declared
  pub all : length (events_in h) ≡ h.count
  pub blank : h ≡ history_of (objects_in h) (events_in h)

history-parts : (os : List Object) (d : ℕ) (es : List Event) (c : ℕ) (os' : List Object) (es' : List Event)
    → os ≡ pad 16 no_object os' → length os' ≡ d → es ≡ pad 64 no_event es' → length es' ≡ c
    → ◌≡◌ {A = History} (record { objects = os; declared = d; events = es; count = c }) (history_of os' es')
unfolding history_of
history-parts os d es c os' es' h₁ h₂ h₃ h₄ = rw (h₁, ← h₂, h₃, ← h₄)

pub within-limits : (h : History) → within h ≡ true → Limits h
unfolding within
within-limits h e =
    let os : List Object = h.objects in
    let es : List Event = h.events in
    let b₂ : Bool = leb h.declared 16 && leb h.count 64 in
    let b₃ : Bool = b₂ && eqb (length os) 16 in
    let b₄ : Bool = b₃ && eqb (length es) 64 in
    let b₅ : Bool = b₄ && good_objects (objects_in h) in
    let b₆ : Bool = b₅ && good_events (objects_in h) (events_in h) in
    let b₇ : Bool = b₆ && blank_objects (drop h.declared os) in
    let e₇ = and_left b₇ (blank_events (drop h.count es)) e in
    let e₆ = and_left b₆ (blank_objects (drop h.declared os)) e₇ in
    let e₅ = and_left b₅ (good_events (objects_in h) (events_in h)) e₆ in
    let e₄ = and_left b₄ (good_objects (objects_in h)) e₅ in
    let e₃ = and_left b₃ (eqb (length es) 64) e₄ in
    let e₂ = and_left b₂ (eqb (length os) 16) e₃ in
    let d : h.declared ≤ 16 = leb-true h.declared 16 (and_left (leb h.declared 16) (leb h.count 64) e₂) in
    let c : h.count ≤ 64 = leb-true h.count 64 (and_right (leb h.declared 16) (leb h.count 64) e₂) in
    let l : length os ≡ 16 = eqb-true (length os) 16 (and_right b₂ (eqb (length os) 16) e₃) in
    let m : length es ≡ 64 = eqb-true (length es) 64 (and_right b₃ (eqb (length es) 64) e₄) in
    let p : length (objects_in h) ≡ h.declared = length-take-le h.declared os (omega arith) in
    let q : length (events_in h) ≡ h.count = length-take-le h.count es (omega arith) in
    record {
      declared = d;
      count = c;
      objects = and_right b₄ (good_objects (objects_in h)) e₅;
      events = and_right b₅ (good_events (objects_in h) (events_in h)) e₆;
      few = p;
      all = q;
      blank =
          history-parts os h.declared es h.count (objects_in h) (events_in h)
          (padded 16 no_object os h.declared l d
          (objects-blank (drop h.declared os) (and_right b₆ (blank_objects (drop h.declared os)) e₇)))
          p
          (padded 64 no_event es h.count m c
          (events-blank (drop h.count es) (and_right b₇ (blank_events (drop h.count es)) e)))
          q;
    }

pub limits-within : (os : List Object) (es : List Event) → length os ≤ 16 → length es ≤ 64 → good_objects os ≡ true
    → good_events os es ≡ true → within (history_of os es) ≡ true
unfolding within history_of
limits-within os es h k g f =
    rw (
      le-leb (length os) 16 h,
      le-leb (length es) 64 k,
      pad-length 16 no_object os h,
      pad-length 64 no_event es k,
      take-pad 16 no_object os,
      take-pad 64 no_event es,
      g,
      f,
      drop-pad 16 no_object os,
      drop-pad 64 no_event es,
      blank-objects (16 - length os),
    )
    (blank-events (64 - length es))
