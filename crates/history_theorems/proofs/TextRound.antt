-- Round trips of a whole text: the text of good objects and events reads as them, and no other text reads. Assumes nothing.
use Prim.Native.Nat.{ℕ, ◌+◌, ◌≤◌, ◌<◌}
use native.Mathlib.Omega.{arith}
use mathlib.Core.Path.{◌≡◌, refl, sym, ap, ap₂, ◌∙◌}
use mathlib.Core.Bool.{true, false}
use mathlib.Core.List.{List, [], ◌∷◌, ◌++◌, append-nil, append_assoc}
use lib.ListN.{length, length-append}
use borrow.Author.Tests.{eq-eqb, ne_eqb}
use Rattle.layout.specs.Split.{split, join}
use Rattle.layout.specs.Word.{same, object_heading, event_heading}
use Rattle.layout.proofs.Cases.{by_bool, by-eq, and_left, and_right}
use Rattle.layout.proofs.SplitLaws.{without, all_without, split-append, join-split}
use Rattle.layout.proofs.WordLaws.{same_true}
use Rattle.history.specs.declared.record.Object.{Object}
use Rattle.history.specs.declared.record.Event.{Event}
use Rattle.history.specs.Faults.{object_line, event_line}
use Rattle.history_reader.specs.ReadHistory.{read_as, events_from, objects_from, lines_from}
use Rattle.history.specs.HistoryText.{lines_text, object_text, event_text, object_lines, event_lines, text_of}
use Rattle.history.specs.Readable.{good_object, good_objects, good_event, good_events}
use Rattle.history.proofs.LinesLaws.{Numbered, numbered_objects, numbered_events}
use Rattle.history_theorems.proofs.ObjectRound.{object-written, object-not-heading, object-clean, object-read}
use Rattle.event_reader.proofs.EventRound.{event-written, event-clean, event-read}

-- ---- the lines of a text: every line with its line feed, and nothing behind the last
pub split-lines : (ls : List (List ℕ)) → all_without 10 ls ≡ true → split 10 (lines_text ls) ≡ ls ++ [] ∷ []
unfolding all_without lines_text split
split-lines [] e = refl
split-lines (l ∷ ls) e =
    split-append 10 l (lines_text ls) (and_left (without 10 l) (all_without 10 ls) e)
    ∙ ap (λ (r : List (List ℕ)). l ∷ r) (split-lines ls (and_right (without 10 l) (all_without 10 ls) e))

without-lines : (ls ms : List (List ℕ)) → all_without 10 ls ≡ true → all_without 10 ms ≡ true → all_without 10 (ls ++ ms) ≡ true
unfolding all_without
without-lines [] ms p q = q
without-lines (l ∷ ls) ms p q =
    rw (and_left (without 10 l) (all_without 10 ls) p) (without-lines ls ms (and_right (without 10 l) (all_without 10 ls) p) q)

-- numbered lines hold no line feed, where the line of no element does
numbered-clean : {A : Type 0} {text : ℕ → A → List ℕ} {lines : ℕ → List A → List (List ℕ)} → Numbered text lines
    → ((own : ℕ) (x : A) → without 10 (text own x) ≡ true) → (own : ℕ) (xs : List A) → all_without 10 (lines own xs) ≡ true
unfolding all_without
numbered-clean t clean own [] = ap (all_without 10) (t.none own)
numbered-clean t clean own (x ∷ xs) =
    rw (t.more own x xs, clean own x) (numbered-clean t clean (own + 1) xs)

headed : (h : List ℕ) (ls : List (List ℕ)) → without 10 h ≡ true → all_without 10 ls ≡ true → all_without 10 (h ∷ ls) ≡ true
unfolding all_without
headed h ls p q = rw p q

object-heading-clean : without 10 object_heading ≡ true
unfolding without
object-heading-clean = refl

event-heading-clean : without 10 event_heading ≡ true
unfolding without
event-heading-clean = refl

-- the parts of the text of objects and events: after the heading of the objects, and after that of the events
abbrev event_parts : ℕ → List Event → List (List ℕ)
event_parts own es = event_lines own es ++ [] ∷ []

abbrev object_parts : ℕ → List Object → List Event → List (List ℕ)
object_parts own os es = object_lines own os ++ (event_heading ∷ event_parts 0 es)

pub text-parts : (os : List Object) (es : List Event) → split 10 (text_of os es) ≡ object_heading ∷ object_parts 0 os es
unfolding text_of
text-parts os es =
    let ls : List (List ℕ) = object_heading ∷ object_lines 0 os in
    let ms : List (List ℕ) = event_heading ∷ event_lines 0 es in
    split-lines (ls ++ ms)
    (without-lines ls ms (headed object_heading (object_lines 0 os) object-heading-clean (numbered-clean numbered_objects object-clean 0 os))
    (headed event_heading (event_lines 0 es) event-heading-clean (numbered-clean numbered_events event-clean 0 es)))
    ∙ append_assoc ls ms ([] ∷ [])

-- ---- one line more, which is not the last part
event-step : (os : List Object) (es : List Event) (line at : ℕ) (p : List ℕ) (ps : List (List ℕ)) (e : Event) → 0 < length ps
    → event_line (length es) os p ≡ record { fault = 0; event = e }
    → events_from os es line at (p ∷ ps) ≡ events_from os (es ++ e ∷ []) (line + 1) (at + length p + 1) ps
unfolding events_from
event-step os es line at p [] e h q = absurd (omega arith)
event-step os es line at p (r ∷ ps) e h q = rw q

object-step : (os : List Object) (line at : ℕ) (p : List ℕ) (ps : List (List ℕ)) (o : Object) → 0 < length ps
    → same p event_heading ≡ false → object_line (length os) p ≡ record { fault = 0; object = o }
    → objects_from os line at (p ∷ ps) ≡ objects_from (os ++ o ∷ []) (line + 1) (at + length p + 1) ps
unfolding objects_from
object-step os line at p [] o h s q = absurd (omega arith)
object-step os line at p (r ∷ ps) o h s q = rw (s, q)

heading-step : (os : List Object) (line at : ℕ) (ps : List (List ℕ)) → 0 < length ps
    → objects_from os line at (event_heading ∷ ps) ≡ events_from os [] (line + 1) (at + length event_heading + 1) ps
unfolding objects_from same
heading-step os line at [] h = absurd (omega arith)
heading-step os line at (r ∷ ps) h = refl

first_step : (ps : List (List ℕ)) → 0 < length ps → lines_from (object_heading ∷ ps) ≡ objects_from [] 2 (length object_heading + 1) ps
unfolding lines_from same
first_step [] h = absurd (omega arith)
first_step (r ∷ ps) h = refl

pub more : (ls : List (List ℕ)) (l : List ℕ) (ms : List (List ℕ)) → 0 < length (ls ++ (l ∷ ms))
more ls l ms = omega (arith, length-append ls (l ∷ ms))

-- ---- the text of good objects and events has no fault, and reads as them
events-read : (os : List Object) (es₁ es₂ : List Event) (line at : ℕ) → length es₁ + length es₂ ≤ 64 → good_events os es₂ ≡ true
    → events_from os es₁ line at (event_parts (length es₁) es₂) ≡ read_as os (es₁ ++ es₂)
unfolding events_from event_lines good_events
events-read os es₁ [] line at h g = ap (read_as os) (sym (append-nil es₁))
events-read os es₁ (e ∷ es₂) line at h g =
    let n : length (es₁ ++ e ∷ []) ≡ length es₁ + 1 = length-append es₁ (e ∷ []) in
    let p : List ℕ = event_text (length es₁) e in
    event-step os es₁ line at p (event_parts (length es₁ + 1) es₂) e (more (event_lines (length es₁ + 1) es₂) [] [])
    (event-written (length es₁) os e (omega arith) (and_left (good_event os e) (good_events os es₂) g))
    ∙ ap (λ (k : ℕ). events_from os (es₁ ++ e ∷ []) (line + 1) (at + length p + 1) (event_parts k es₂)) (sym n)
    ∙ events-read os (es₁ ++ e ∷ []) es₂ (line + 1) (at + length p + 1) (omega arith)
    (and_right (good_event os e) (good_events os es₂) g)
    ∙ ap (read_as os) (append_assoc es₁ (e ∷ []) es₂)

objects-read : (os₁ os₂ : List Object) (es : List Event) (line at : ℕ) → length os₁ + length os₂ ≤ 16 → length es ≤ 64
    → good_objects os₂ ≡ true → good_events (os₁ ++ os₂) es ≡ true
    → objects_from os₁ line at (object_parts (length os₁) os₂ es) ≡ read_as (os₁ ++ os₂) es
unfolding object_lines good_objects
objects-read os₁ [] es line at h k g f =
    let f' : good_events os₁ es ≡ true = rw (append-nil os₁) at f in
    heading-step os₁ line at (event_parts 0 es) (more (event_lines 0 es) [] [])
    ∙ events-read os₁ [] es (line + 1) (at + length event_heading + 1) (omega arith) f'
    ∙ ap (λ (os : List Object). read_as os es) (sym (append-nil os₁))
objects-read os₁ (o ∷ os₂) es line at h k g f =
    let n : length (os₁ ++ o ∷ []) ≡ length os₁ + 1 = length-append os₁ (o ∷ []) in
    let p : List ℕ = object_text (length os₁) o in
    let a : (os₁ ++ o ∷ []) ++ os₂ ≡ os₁ ++ o ∷ os₂ = append_assoc os₁ (o ∷ []) os₂ in
    object-step os₁ line at p (object_parts (length os₁ + 1) os₂ es) o
    (more (object_lines (length os₁ + 1) os₂) event_heading (event_parts 0 es)) (object-not-heading (length os₁) o)
    (object-written (length os₁) o (omega arith) (and_left (good_object o) (good_objects os₂) g))
    ∙ ap (λ (m : ℕ). objects_from (os₁ ++ o ∷ []) (line + 1) (at + length p + 1) (object_parts m os₂ es)) (sym n)
    ∙ objects-read (os₁ ++ o ∷ []) os₂ es (line + 1) (at + length p + 1) (omega arith) k
    (and_right (good_object o) (good_objects os₂) g) (ap (λ (os : List Object). good_events os es) a ∙ f)
    ∙ ap (λ (os : List Object). read_as os es) a

pub text-read : (os : List Object) (es : List Event) → length os ≤ 16 → length es ≤ 64 → good_objects os ≡ true
    → good_events os es ≡ true → lines_from (split 10 (text_of os es)) ≡ read_as os es
text-read os es h k g f =
    ap lines_from (text-parts os es)
    ∙ first_step (object_parts 0 os es) (more (object_lines 0 os) event_heading (event_parts 0 es))
    ∙ objects-read [] os es 2 (length object_heading + 1) (omega arith) k g f

-- ---- parts without a fault are those of good events, and of good objects and events
record EventsRead (os : List Object) (es : List Event) (ps : List (List ℕ)) : Type 0 where
  rest : List Event
  few : length es + length rest ≤ 64
  good : good_events os rest ≡ true
  says : ps ≡ event_parts (length es) rest

parts-events : (os : List Object) (es : List Event) (line at : ℕ) (ps : List (List ℕ)) → length es ≤ 64
    → (events_from os es line at ps).fault ≡ 0 → EventsRead os es ps
unfolding events_from event_lines good_events
parts-events os es line at [] h z = absurd (omega arith)
parts-events os es line at ([] ∷ []) h z = record { rest = []; few = omega arith; good = refl; says = refl }
parts-events os es line at ((x ∷ p) ∷ []) h z =
    let n : length (x ∷ p) ≡ 0 → ⊥ = λ q. omega arith in
    let b : ◌≡◌ {A = ℕ} 2 0 = rw (ne_eqb (length (x ∷ p)) 0 n) at z in
    absurd (omega arith)
parts-events os es line at (p ∷ q ∷ ps) h z =
    by-eq (event_line (length es) os p).fault 0
    (λ f.
    let r = event-read (length es) os p f in
    let e : Event = (event_line (length es) os p).event in
    let n : length (es ++ e ∷ []) ≡ length es + 1 = length-append es (e ∷ []) in
    let o : length es < 64 = r.numbered in
    let ih = parts-events os (es ++ e ∷ []) (line + 1) (at + length p + 1) (q ∷ ps) (omega arith)
    (rw (eq-eqb (event_line (length es) os p).fault 0 f) at z) in
    let l : length (es ++ e ∷ []) + length ih.rest ≤ 64 = ih.few in
    record {
      rest = e ∷ ih.rest;
      few = omega arith;
      good = rw r.good ih.good;
      says = ap₂ {C = List (List ℕ)} ◌∷◌ (sym r.says) (ih.says ∙ ap (λ (k : ℕ). event_parts k ih.rest) n);
    })
    (λ f. absurd (f (rw (ne_eqb (event_line (length es) os p).fault 0 f) at z)))

record ObjectsRead (os : List Object) (ps : List (List ℕ)) : Type 0 where
  rest : List Object
  events : List Event
  few : length os + length rest ≤ 16
  count : length events ≤ 64
  good : good_objects rest ≡ true
  goods : good_events (os ++ rest) events ≡ true
  says : ps ≡ object_parts (length os) rest events

parts-objects : (os : List Object) (line at : ℕ) (ps : List (List ℕ)) → length os ≤ 16
    → (objects_from os line at ps).fault ≡ 0 → ObjectsRead os ps
unfolding objects_from object_lines good_objects
parts-objects os line at [] h z = absurd (omega arith)
parts-objects os line at (p ∷ []) h z = absurd (omega arith)
parts-objects os line at (p ∷ q ∷ ps) h z =
    by_bool (same p event_heading)
    (λ s.
    let r = parts-events os [] (line + 1) (at + length p + 1) (q ∷ ps) (omega arith) (rw s at z) in
    let c : length {A = Event} [] + length r.rest ≤ 64 = r.few in
    record {
      rest = [];
      events = r.rest;
      few = omega arith;
      count = omega arith;
      good = refl;
      goods = rw (append-nil os) r.good;
      says = ap₂ {C = List (List ℕ)} ◌∷◌ (same_true p event_heading s) r.says;
    })
    (λ s. by-eq (object_line (length os) p).fault 0
    (λ f.
    let r = object-read (length os) p f in
    let o : Object = (object_line (length os) p).object in
    let n : length (os ++ o ∷ []) ≡ length os + 1 = length-append os (o ∷ []) in
    let b : length os < 16 = r.numbered in
    let ih = parts-objects (os ++ o ∷ []) (line + 1) (at + length p + 1) (q ∷ ps) (omega arith)
    (rw (s, eq-eqb (object_line (length os) p).fault 0 f) at z) in
    let l : length (os ++ o ∷ []) + length ih.rest ≤ 16 = ih.few in
    record {
      rest = o ∷ ih.rest;
      events = ih.events;
      few = omega arith;
      count = ih.count;
      good = rw r.good ih.good;
      goods = ap (λ (k : List Object). good_events k ih.events) (sym (append_assoc os (o ∷ []) ih.rest)) ∙ ih.goods;
      says = ap₂ {C = List (List ℕ)} ◌∷◌ (sym r.says) (ih.says ∙ ap (λ (k : ℕ). object_parts k ih.rest ih.events) n);
    })
    (λ f. absurd (f (rw (s, ne_eqb (object_line (length os) p).fault 0 f) at z))))

record LinesRead (ps : List (List ℕ)) : Type 0 where
  objects : List Object
  events : List Event
  few : length objects ≤ 16
  count : length events ≤ 64
  good : good_objects objects ≡ true
  goods : good_events objects events ≡ true
  says : ps ≡ object_heading ∷ object_parts 0 objects events

parts-lines : (ps : List (List ℕ)) → (lines_from ps).fault ≡ 0 → LinesRead ps
unfolding lines_from
parts-lines [] z = absurd (omega arith)
parts-lines (p ∷ []) z = absurd (omega arith)
parts-lines (p ∷ q ∷ ps) z =
    by_bool (same p object_heading)
    (λ s.
    let r = parts-objects [] 2 (length p + 1) (q ∷ ps) (omega arith) (rw s at z) in
    let b : length {A = Object} [] + length r.rest ≤ 16 = r.few in
    record {
      objects = r.rest;
      events = r.events;
      few = omega arith;
      count = r.count;
      good = r.good;
      goods = r.goods;
      says = ap₂ {C = List (List ℕ)} ◌∷◌ (same_true p object_heading s) r.says;
    })
    (λ s. let b : ◌≡◌ {A = ℕ} 2 0 = rw s at z in absurd (omega arith))

-- ---- a text without a fault is the text of good objects and events
pub record Reads (text : List ℕ) : Type 0 where
  pub objects : List Object
  pub events : List Event
  pub few : length objects ≤ 16
  pub count : length events ≤ 64
  pub good : good_objects objects ≡ true
  pub goods : good_events objects events ≡ true
  pub says : text_of objects events ≡ text
  pub reads : lines_from (split 10 text) ≡ read_as objects events

pub read-text : (text : List ℕ) → (lines_from (split 10 text)).fault ≡ 0 → Reads text
read-text text z =
    let r = parts-lines (split 10 text) z in
    let os : List Object = r.objects in
    let es : List Event = r.events in
    let same_parts : split 10 (text_of os es) ≡ split 10 text = text-parts os es ∙ sym r.says in
    record {
      objects = os;
      events = es;
      few = r.few;
      count = r.count;
      good = r.good;
      goods = r.goods;
      says = sym (join-split 10 (text_of os es)) ∙ ap (join 10) same_parts ∙ join-split 10 text;
      reads = ap lines_from (sym same_parts) ∙ text-read os es r.few r.count r.good r.goods;
    }
