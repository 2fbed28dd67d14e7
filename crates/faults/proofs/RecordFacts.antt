-- What a record within its limits says of all its places, used or not. Assumes nothing.
use Prim.Native.Nat.{ℕ, ◌≤◌, ◌<◌}
use native.Mathlib.Omega.{arith}
use mathlib.Core.Path.{◌≡◌, refl, sym, ap, ◌∙◌}
use mathlib.Core.Bool.{true, cond, ◌&&◌}
use mathlib.Core.List.{List}
use lib.ListN.{length, get_or, take, get_or-eq_default}
use lib.Dec.{eqb, leb, ltb}
use borrow.Author.Tests.{leb-true}
use Rattle.layout.proofs.Cases.{by-lt, and_right}
use Rattle.history.specs.declared.record.Object.{Object}
use Rattle.history.specs.declared.record.Event as WrittenEvent
use Rattle.history.specs.declared.record.History as WrittenHistory
use Rattle.history.specs.Record.{pad, no_object, no_event, history_of, objects_in, events_in}
use Rattle.history.specs.declared.record.Kind.{Kind}
use Rattle.history.specs.declared.record.Kind.TheVariants.{Register, Queue, Stack, Window, Channel}
use Rattle.history.specs.Kinds.{has_width, width_limit}
use Rattle.history.specs.Readable.{good_object, within}
use Rattle.history.proofs.PadLaws.{pad-length, get_or-pad}
use Rattle.history.proofs.WithinLaws.{within-limits}
use Rattle.history.proofs.Guarantees.{within-sound}
use Rattle.certificate.specs.declared.numbers.ViewNumbers.{ViewNumbers}
use Rattle.certificate.specs.Steps.Numbers.{view_numbers_of}
use Rattle.certificate.proofs.NumberingLaws.{counted, numbers-in}
use Rattle.criteria.specs.Object.{keeps}
use Rattle.criteria.specs.History.{event}
use Rattle.criteria.specs.Records as CriteriaRecords
use Rattle.criteria.proofs.RecordLaws.{event-is}

-- the arrays of the record that is made of objects and events
objects-of : (os : List Object) (es : List WrittenEvent.Event) → (history_of os es).objects ≡ pad 16 no_object os
unfolding history_of
objects-of os es = refl

events-of : (os : List Object) (es : List WrittenEvent.Event) → (history_of os es).events ≡ pad 64 no_event es
unfolding history_of
events-of os es = refl

-- no object keeps more than eight of the values written to it
kept-few : (k : Kind) (width : ℕ) → cond (has_width k) (ltb 0 width && leb width (width_limit k)) (eqb width 0) ≡ true → keeps k width ≤ 8
kept-few Register width g = omega arith
kept-few Queue width g = omega arith
kept-few Stack width g = omega arith
kept-few Window width g = leb-true width 8 (and_right (ltb 0 width) (leb width 8) g)
kept-few Channel width g = omega arith

keeps-few : (o : Object) → good_object o ≡ true → keeps o.kind o.width ≤ 8
unfolding good_object
keeps-few o g = kept-few o.kind o.width g

module _ (h : WrittenHistory.History) (w : within h ≡ true) where
  objects-are : h.objects ≡ pad 16 no_object (objects_in h)
  objects-are = ap (λ (x : WrittenHistory.History). x.objects) (within-limits h w).blank ∙ objects-of (objects_in h) (events_in h)

  events-are : h.events ≡ pad 64 no_event (events_in h)
  events-are = ap (λ (x : WrittenHistory.History). x.events) (within-limits h w).blank ∙ events-of (objects_in h) (events_in h)

  pub objects-agree : (o : ℕ) → get_or h.objects o no_object ≡ get_or (objects_in h) o no_object
  objects-agree o = ap (λ (l : List Object). get_or l o no_object) objects-are ∙ get_or-pad 16 no_object (objects_in h) o

  events-agree : (e : ℕ) → get_or h.events e no_event ≡ get_or (events_in h) e no_event
  events-agree e = ap (λ (l : List WrittenEvent.Event). get_or l e no_event) events-are ∙ get_or-pad 64 no_event (events_in h) e

  pub events-long : length h.events ≡ 64
  events-long =
      ap length events-are ∙ pad-length 64 no_event (events_in h) (omega (arith, (within-limits h w).count, (within-limits h w).all))

  -- an object that is not declared is blank
  pub all-keep-few : (o : ℕ) → keeps (get_or h.objects o no_object).kind (get_or h.objects o no_object).width ≤ 8
  all-keep-few o =
      rw (objects-agree o)
      (by-lt o (length (objects_in h))
      (λ l. keeps-few (get_or (objects_in h) o no_object) ((within-sound h w).object o (omega (arith, l, (within-limits h w).few))))
      (λ l. rw (get_or-eq_default (objects_in h) no_object {n = o} l) (omega arith)))

  -- an event's object is one of the sixteen
  pub objects-small : (e : ℕ) → e < h.count → (get_or h.events e no_event).object < 16
  objects-small e l =
      rw (events-agree e) (omega (arith, ((within-sound h w).event e l).declared, (within-limits h w).few, (within-limits h w).declared))

  -- an event's process is below 8, and its object is declared
  pub process-small : (e : ℕ) → e < h.count → (get_or h.events e no_event).process.0 < 8
  process-small e l = rw (events-agree e) ((within-sound h w).event e l).process

  pub object-declared : (e : ℕ) → e < h.count → (event (CriteriaRecords.history_of h) e).object < length (objects_in h)
  unfolding CriteriaRecords.event_of
  object-declared e l =
      rw (event-is h e (omega (arith, l, (within-limits h w).all))) ((within-sound h w).event e l).declared

-- ---- the numbers of the views
pub number_at : (x : ViewNumbers) (ns : List ℕ) → x ≡ view_numbers_of ns → (k : ℕ) → get_or x.numbers k 0 ≡ get_or ns k 0
unfolding view_numbers_of
number_at x ns q k = ap (λ (y : ViewNumbers). get_or y.numbers k 0) q ∙ get_or-pad 64 0 ns k

pub numbers-long : (x : ViewNumbers) (ns : List ℕ) → x ≡ view_numbers_of ns → length (take x.count x.numbers) ≡ x.count
numbers-long x ns q = ap length (numbers-in x ns q) ∙ sym (counted x ns q)
