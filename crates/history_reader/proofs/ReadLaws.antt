-- Laws of reading a history text, a line at a time. Assumes nothing.
use Prim.Native.Nat.{ℕ, ◌+◌, ◌-◌, ◌≤◌, ◌<◌}
use native.Mathlib.Nat.{not-suc-le-zero}
use native.Mathlib.Omega.{arith}
use mathlib.Core.Path.{◌≡◌, refl, sym, ap, subst, ◌∙◌}
use mathlib.Core.Bool.{true, false, cond}
use mathlib.Core.List.{List, [], ◌∷◌, ◌++◌}
use lib.ListN.{length, take, drop, length-drop, drop_of_length-le}
use lib.Seq.{length-take-le}
use lib.Dec.{eqb, ltb}
use borrow.Author.Tests.{eq-eqb, ne_eqb, eqb-false, ltb-true, le-leb, lt-leb}
use Rattle.std.specs.Prelude.{Result, Ok, Err, MatchResult}
use Rattle.std.specs.Result.{IsErrAnd}
use Rattle.layout.specs.Split.{find, split}
use Rattle.layout.specs.Word.{same, object_heading, event_heading}
use Rattle.layout.proofs.Cases.{by-lt, by-eq, and_left}
use Rattle.layout.proofs.FillLaws.{tail-part}
use Rattle.layout.proofs.SplitLaws.{cut-more, cut-last, split-some}
use Rattle.layout.proofs.NumberLaws.{cut-long}
use Rattle.history.specs.declared.record.Object.{Object}
use Rattle.history.specs.declared.record.Event.{Event}
use Rattle.history.specs.declared.record.History.{History}
use Rattle.history.specs.Record.{pad, no_object, no_event, history_of}
use Rattle.history.proofs.PadLaws.{Filled, filled-count}
use Rattle.history.specs.declared.fault.Fault.{Fault}
use Rattle.history.specs.declared.fault.Fault.TheVariants.{TooLong, Layout, Limits, Misfit, BadAnswer, NotRising}
use Rattle.history.specs.Faults.{ObjectRead, EventRead, fault_number, object_read, event_read, object_line, event_line, faulty_event, object_limits, object_fault, object_three, event_fault, event_said, event_six, object_with, event_with}
use Rattle.history.proofs.FaultLaws.{fault-none}
use Rattle.history.proofs.ObjectLaws.{three-order, object-three, object-count}
use Rattle.history.proofs.EventLaws.{limited, event-six, event-count}
use Rattle.history.specs.declared.next.Next.{Next}
use Rattle.event_reader.specs.Steps.Next.{next_read}
use Rattle.history.proofs.NextLaws.{next-cut, next-line}
use Rattle.history_reader.specs.ReadHistory.{refusal, read_as, events_from, objects_from, lines_from, read_history}

-- ---- the result of a reader, with its error mapped
module _ {X E F : Type 0} where
  pub kept : (r : Result X E) (m : Result X F) (Q : E → F → Type 0) (x : X) → MatchResult r (λ x. m ≡ Ok x) (λ e. IsErrAnd m (Q e)) → m ≡ Ok x → r ≡ Ok x
  kept (Ok y) m Q x h w = cc
  kept (Err e) (Ok z) Q x h w = absurd h
  kept (Err e) (Err f) Q x h w = cc

  pub failed : (r : Result X E) (m : Result X F) (Q : E → F → Type 0) (y : F) → MatchResult r (λ x. m ≡ Ok x) (λ e. IsErrAnd m (Q e)) → m ≡ Err y
      → (e : E) × ((r ≡ Err e) × Q e y)
  failed (Ok x) m Q y h w = absurd (cc)
  failed (Err e) (Ok z) Q y h w = absurd h
  failed (Err e) (Err f) Q y h w = let k : f ≡ y = cc in (e, (refl, subst (λ (f : F). Q e f) k h))

pub fault-some : (f : Fault) → fault_number f ≡ 0 → ⊥
fault-some TooLong z = omega arith
fault-some Layout z = omega arith
fault-some Limits z = omega arith
fault-some Misfit z = omega arith
fault-some BadAnswer z = omega arith
fault-some NotRising z = omega arith

-- ---- a line with its line feed: some part follows it
events-step : (os : List Object) (es : List Event) (line at : ℕ) (p : List ℕ) (l : List (List ℕ)) → 0 < length l
    → events_from os es line at (p ∷ l)
    ≡ cond (eqb (event_line (length es) os p).fault 0)
    (events_from os (es ++ (event_line (length es) os p).event ∷ []) (line + 1) (at + length p + 1) l)
    (refusal (event_line (length es) os p).fault line at (length p))
unfolding events_from
events-step os es line at p [] h = absurd (not-suc-le-zero h)
events-step os es line at p (q ∷ l) h = refl

objects-step : (os : List Object) (line at : ℕ) (p : List ℕ) (l : List (List ℕ)) → 0 < length l
    → objects_from os line at (p ∷ l)
    ≡ cond (same p event_heading)
    (events_from os [] (line + 1) (at + length p + 1) l)
    (cond (eqb (object_line (length os) p).fault 0)
    (objects_from (os ++ (object_line (length os) p).object ∷ []) (line + 1) (at + length p + 1) l)
    (refusal (object_line (length os) p).fault line at (length p)))
unfolding objects_from
objects-step os line at p [] h = absurd (not-suc-le-zero h)
objects-step os line at p (q ∷ l) h = refl

lines_step : (p : List ℕ) (l : List (List ℕ)) → 0 < length l
    → lines_from (p ∷ l) ≡ cond (same p object_heading) (objects_from [] 2 (length p + 1) l) (refusal 2 1 0 (length p))
unfolding lines_from
lines_step p [] h = absurd (not-suc-le-zero h)
lines_step p (q ∷ l) h = refl

-- ---- what the line of an event is that goes from a to e
module _ (s : List ℕ) (a e : ℕ) (found : e ≡ a + find 10 (drop a s)) (from : a ≤ length s) (own : ℕ) (os : List Object) where
  pub cut-at : length s ≤ e → next_read own os (drop a s) ≡ faulty_event 2
  cut-at h = next-cut (event_line own os) (faulty_event 2) (drop a s) (omega (arith, length-drop a s))

  pub line-at : e < length s → next_read own os (drop a s) ≡ event_line own os (take (e - a) (drop a s))
  line-at h =
      let k : find 10 (drop a s) ≡ e - a = omega arith in
      next-line (event_line own os) (faulty_event 2) (drop a s) (omega (arith, length-drop a s)) ∙ ap (λ (n : ℕ). event_line own os (take n (drop a s))) k

-- the same, as `next_event` tells it of `&s[a..]`
pub next-told : (s : List ℕ) (a own : ℕ) (os : List Object) → a ≤ length s → (n : Next Event)
    → (event_read n.read ≡ next_read own os (take (length s - a) (drop a s))) × (n.length ≡ find 10 (take (length s - a) (drop a s)))
    × (n.length ≤ length (take (length s - a) (drop a s)))
    → (event_read n.read ≡ next_read own os (drop a s)) × (a + n.length ≡ a + find 10 (drop a s)) × (a + n.length ≤ length s)
next-told s a own os from n told =
    let t = tail-part s a in
    (rw t at told.0, ap (λ (k : ℕ). a + k) (rw t at told.1), omega (arith, rw t at told.2, length-drop a s))

-- ---- a turn of the loops: the next line goes from a to e
module _ (line : ℕ) (s : List ℕ) (a e : ℕ) (found : e ≡ a + find 10 (drop a s)) (from : a ≤ length s) (to : e ≤ length s) where
  before : a ≤ e
  before = omega arith

  long : length (take (e - a) (drop a s)) ≡ e - a
  long = cut-long s a e before to

  next : a + length (take (e - a) (drop a s)) + 1 ≡ e + 1
  next = omega (arith, long, before)

  rest_some : 0 < length (split 10 (drop (e + 1) s))
  rest_some = split-some 10 (drop (e + 1) s)

  module _ (os : List Object) where
    module _ (h : a < length s) (x : EventRead) (own : ℕ) (q : x ≡ next_read own os (drop a s)) (es : List Event) (many : length es ≡ own) where
      events-turn : events_from os es line a (split 10 (drop a s))
          ≡ cond (eqb x.fault 0) (events_from os (es ++ x.event ∷ []) (line + 1) (e + 1) (split 10 (drop (e + 1) s))) (refusal x.fault line a (e - a))
      unfolding events_from
      events-turn =
          by-lt e (length s)
          (λ k.
          ap (events_from os es line a) (cut-more 10 s a e found from k)
          ∙ events-step os es line a (take (e - a) (drop a s)) (split 10 (drop (e + 1) s)) rest_some
          ∙ rw (many, q, line-at s a e found from own os k, next, long))
          (λ k. rw (q, cut-at s a e found from own os k, cut-last 10 s a e found from k, long, ne_eqb (e - a) 0 (λ z. omega arith)))

    -- the line is that of an event
    module _ (h : a < length s) (r : Result Event Fault) (own : ℕ) (q : event_read r ≡ next_read own os (drop a s))
        (es : List Event) (many : length es ≡ own) where
      pub events-more : (v : Event) (after behind : ℕ) → r ≡ Ok v → line + 1 ≡ after → behind ≡ e + 1
          → events_from os es line a (split 10 (drop a s)) ≡ events_from os (es ++ v ∷ []) after behind (split 10 (drop behind s))
      events-more v after behind z k b = events-turn h (event_read r) own q es many ∙ rw (z, k, b)

      pub events-bad : (f : Fault) → r ≡ Err f → events_from os es line a (split 10 (drop a s)) ≡ refusal (fault_number f) line a (e - a)
      events-bad f z = events-turn h (event_read r) own q es many ∙ rw (z, ne_eqb (fault_number f) 0 (fault-some f))

    pub objects-end : length s ≤ e → objects_from os line a (split 10 (drop a s)) ≡ refusal 2 line a (e - a)
    unfolding objects_from
    objects-end h = rw (cut-last 10 s a e found from h, long)

    module _ (h : e < length s) where
      objects-turn : objects_from os line a (split 10 (drop a s))
          ≡ cond (same (take (e - a) (drop a s)) event_heading)
          (events_from os [] (line + 1) (e + 1) (split 10 (drop (e + 1) s)))
          (cond (eqb (object_line (length os) (take (e - a) (drop a s))).fault 0)
          (objects_from (os ++ (object_line (length os) (take (e - a) (drop a s))).object ∷ []) (line + 1) (e + 1) (split 10 (drop (e + 1) s)))
          (refusal (object_line (length os) (take (e - a) (drop a s))).fault line a (e - a)))
      objects-turn =
          ap (objects_from os line a) (cut-more 10 s a e found from h)
          ∙ objects-step os line a (take (e - a) (drop a s)) (split 10 (drop (e + 1) s)) rest_some
          ∙ rw (next, long)

      pub objects-heading : (after : ℕ) → line + 1 ≡ after → same (take (e - a) (drop a s)) event_heading ≡ true
          → objects_from os line a (split 10 (drop a s)) ≡ events_from os [] after (e + 1) (split 10 (drop (e + 1) s))
      objects-heading after k w = objects-turn ∙ rw (w, k)

      -- the line is that of an object
      module _ (w : same (take (e - a) (drop a s)) event_heading ≡ false) (r : Result Object Fault) (own : ℕ) (many : length os ≡ own)
          (q : object_read r ≡ object_line own (take (e - a) (drop a s))) where
        pub objects-more : (o : Object) (after : ℕ) → r ≡ Ok o → line + 1 ≡ after
            → objects_from os line a (split 10 (drop a s)) ≡ objects_from (os ++ o ∷ []) after (e + 1) (split 10 (drop (e + 1) s))
        objects-more o after z k = objects-turn ∙ rw (w, many, ← q, z, k)

        pub objects-bad : (f : Fault) → r ≡ Err f → objects_from os line a (split 10 (drop a s)) ≡ refusal (fault_number f) line a (e - a)
        objects-bad f z = objects-turn ∙ rw (w, many, ← q, z, ne_eqb (fault_number f) 0 (fault-some f))

-- ---- the end of the text, after the last event
pub events-done : (os : List Object) (es : List Event) (line : ℕ) (s : List ℕ) (a : ℕ) → length s ≤ a → events_from os es line a (split 10 (drop a s)) ≡ read_as os es
unfolding split events_from
events-done os es line s a h = rw (drop_of_length-le s h)

-- ---- an own number that is read has a place
event-with : (k : ℕ) (e : Event) → (event_with k e).fault ≡ k
event-with k e = by-eq k 0 (λ z. rw (eq-eqb k 0 z) (sym z)) (λ z. rw (ne_eqb k 0 z))

object-with : (k : ℕ) (o : Object) → (object_with k o).fault ≡ k
object-with k o = by-eq k 0 (λ z. rw (eq-eqb k 0 z) (sym z)) (λ z. rw (ne_eqb k 0 z))

six-fault : (own : ℕ) (os : List Object) (a p o w v s : List ℕ) → (event_six own os a p o w v s).fault ≡ event_fault own os a p o w v s
unfolding event_six
six-fault own os a p o w v s = event-with (event_fault own os a p o w v s) (event_said p o w v s)

three-fault : (own : ℕ) (a k w : List ℕ) → (object_three own a k w).fault ≡ object_fault own a k w
unfolding object_three
three-fault own a k w = object-with (object_fault own a k w) _

six-own : (own : ℕ) (os : List Object) (a p o w v s : List ℕ) → event_fault own os a p o w v s ≡ 0 → own < 64
unfolding event_fault
six-own own os a p o w v s e = ltb-true own 64 (limited own (length os) p o v s (fault-none _ _ _ _ e).limits).numbered

three-own : (own : ℕ) (a k w : List ℕ) → object_fault own a k w ≡ 0 → own < 16
unfolding object_limits
three-own own a k w e = ltb-true own 16 (and_left (ltb own 16) _ (three-order own a k w e).limits)

pub event-own : (own : ℕ) (os : List Object) (line : List ℕ) → (event_line own os line).fault ≡ 0 → own < 64
event-own own os line e =
    by-eq (length (split 32 line)) 6
    (λ h. six-own own os _ _ _ _ _ _ (sym (six-fault own os _ _ _ _ _ _) ∙ ap (λ (x : EventRead). x.fault) (sym (event-six own os line (split 32 line) refl h)) ∙ e))
    (λ h. absurd (eqb-false 2 0 refl (ap (λ (x : EventRead). x.fault) (sym (event-count own os line (split 32 line) refl h)) ∙ e)))

pub object-own : (own : ℕ) (line : List ℕ) → (object_line own line).fault ≡ 0 → own < 16
object-own own line e =
    by-eq (length (split 32 line)) 3
    (λ h. three-own own _ _ _ (sym (three-fault own _ _ _) ∙ ap (λ (x : ObjectRead). x.fault) (sym (object-three own line (split 32 line) refl h)) ∙ e))
    (λ h. absurd (eqb-false 2 0 refl (ap (λ (x : ObjectRead). x.fault) (sym (object-count own line (split 32 line) refl h)) ∙ e)))

pub object-few : (r : Result Object Fault) (o : Object) (own : ℕ) (line : List ℕ) → object_read r ≡ object_line own line → r ≡ Ok o → own < 16
object-few r o own line q z = object-own own line (ap (λ (x : ObjectRead). x.fault) (sym q ∙ ap object_read z))

-- ---- the next line is that of the event v
module _ (own : ℕ) (os : List Object) (s : List ℕ) (a e : ℕ) (found : e ≡ a + find 10 (drop a s)) (from : a ≤ length s)
    (r : Result Event Fault) (q : event_read r ≡ next_read own os (drop a s)) (v : Event) (z : r ≡ Ok v) where
  no-fault : (event_read r).fault ≡ 0
  no-fault = ap (λ (r : Result Event Fault). (event_read r).fault) z

  -- it has its line feed
  pub event-short : e < length s
  event-short =
      by-lt e (length s)
      (λ h. h)
      (λ h.
      let k : (event_read r).fault ≡ 2 = ap (λ (y : EventRead). y.fault) (q ∙ cut-at s a e found from own os h) in
      absurd (omega (arith, no-fault)))

  -- it has a place
  pub event-few : own < 64
  event-few =
      event-own own os (take (e - a) (drop a s))
      (ap (λ (y : EventRead). y.fault) (sym (q ∙ line-at s a e found from own os event-short)) ∙ no-fault)

-- ---- the record that was read
pub history-made : (objects : List Object) (declared : ℕ) (events : List Event) (count : ℕ)
    → objects ≡ pad 16 no_object (take declared objects) → length (take declared objects) ≡ declared → Filled 64 no_event events count
    → ◌≡◌ {A = History} (record { objects = objects; declared = declared; events = events; count = count })
    (history_of (take declared objects) (take count events))
unfolding history_of
history-made objects declared events count p d f =
    ap (λ (x : List Object). record { objects = x; declared = declared; events = events; count = count }) p
    ∙ ap (λ (x : ℕ). record { objects = pad 16 no_object (take declared objects); declared = x; events = events; count = count }) (sym d)
    ∙ ap (λ (x : List Event). record { objects = pad 16 no_object (take declared objects); declared = length (take declared objects); events = x; count = count }) f.pads
    ∙ ap (λ (x : ℕ). record { objects = pad 16 no_object (take declared objects); declared = length (take declared objects); events = pad 64 no_event (take count events); count = x }) (sym (filled-count f))

-- ---- the first line
pub lines_end : (s : List ℕ) → split 10 s ≡ s ∷ [] → lines_from (split 10 s) ≡ refusal 2 1 0 (length s - 0)
unfolding lines_from
lines_end s e = let z : length s - 0 ≡ length s = omega arith in rw (e, z)

module _ (s p q : List ℕ) (cut : split 10 s ≡ p ∷ split 10 q) where
  pub lines-heading : same p object_heading ≡ true → lines_from (split 10 s) ≡ objects_from [] 2 (length p + 1) (split 10 q)
  lines-heading w = ap lines_from cut ∙ lines_step p (split 10 q) (split-some 10 q) ∙ rw w

  pub lines-bad : same p object_heading ≡ false → lines_from (split 10 s) ≡ refusal 2 1 0 (length p - 0)
  lines-bad w = let z : length p - 0 ≡ length p = omega arith in ap lines_from cut ∙ lines_step p (split 10 q) (split-some 10 q) ∙ rw (w, z)

-- what is behind the first line
pub first-rest : (s p : List ℕ) → find 10 s < length s → p ≡ take (find 10 s) s → find 10 s ≡ length p
first-rest s p h e = sym (ap length e ∙ length-take-le (find 10 s) s (omega arith))

-- ---- a text that is too long
module _ (text : List ℕ) where
  pub history-lines : length text ≤ 16384 → read_history text ≡ lines_from (split 10 text)
  unfolding read_history
  history-lines h = rw (le-leb (length text) 16384 h)

  pub history-long : 16384 < length text → read_history text ≡ refusal 1 0 0 0
  unfolding read_history
  history-long h = rw (lt-leb (length text) 16384 h)
