-- The lists of records that were read are what the theorems ask: their counts and numbers are the text's, what the readers guarantee
-- is `FewProcesses` and `Readable`, and windows have only the ops that they can have. Assumes nothing.
use Prim.Native.Nat.{ℕ, zero, suc, ◌+◌, ◌≤◌, ◌<◌}
use native.Mathlib.Nat.{not-suc-le-zero}
use native.Mathlib.Omega.{arith}
use mathlib.Core.Path.{◌≡◌, refl, sym, ap, subst, ◌∙◌}
use mathlib.Core.Bool.{Bool, true, false, cond, false≢true}
use mathlib.Core.List.{List, [], ◌∷◌, map}
use lib.ListN.{length, get_or, length-map, get_or-eq_default}
use lib.Dec.{eqb, ltb}
use borrow.Author.Tests.{eqb-true, ltb-true}
use Rattle.layout.proofs.Cases.{by-lt, and_left, and_right}
use Rattle.history.specs.declared.record.Event as WrittenEvent
use Rattle.history.specs.declared.record.History as WrittenHistory
use Rattle.history.specs.declared.record.Kind.TheVariants.{Window}
use Rattle.history.specs.declared.record.Op.TheVariants.{Read}
use Rattle.history.specs.Record.{no_event, events_in}
use Rattle.history.specs.Kinds.{has_op}
use Rattle.history.proofs.Guarantees as HistoryGuarantees
use Rattle.certificate.specs.declared.record.Criterion.{Criterion}
use Rattle.certificate.specs.declared.record.Criterion.TheVariants.{Pram, Weak, Causal, Converge, Sequential, Strict}
use Rattle.certificate.specs.declared.record.Certificate as WrittenCertificate
use Rattle.certificate.specs.Record.{pasts_in, views_in}
use Rattle.certificate.specs.Criteria.{has_pasts, count_from, has_events, processes_from, view_numbers}
use Rattle.certificate.specs.Criteria as text
use Rattle.certificate.specs.Faults.{rising}
use Rattle.certificate.proofs.NumberingLaws.{count_long, count_at}
use Rattle.certificate.proofs.Guarantees as CertificateGuarantees
use Rattle.criteria.specs.Tests.{keep_if, keep, up_to, mem, RisingFrom, Rising}
use Rattle.criteria.specs.Object.{last_values}
use Rattle.criteria.specs.History.{Event, size, event, object, process, own}
use Rattle.criteria.specs.Replay.{start, answered, after_all}
use Rattle.criteria.specs.Written.{all_written_to}
use Rattle.criteria.specs.Certificate.{active, processes, past_count, view_count, view_number, EventsOf, Readable}
use Rattle.criteria.specs.Records.{event_of, history_of, certificate_of}
use Rattle.criteria.proofs.Lists.{by-test, any_at, any_some, same_test, true-or-left, true-or-right}
use Rattle.criteria.proofs.Meeting.{FewProcesses, nil-events}
use Rattle.criteria.proofs.Object.{window-answers}

-- ---- the events of a history
pub size_is : (h : WrittenHistory.History) → size (history_of h) ≡ length (events_in h)
unfolding history_of
size_is h = length-map (events_in h) event_of

map_at : (es : List WrittenEvent.Event) (e : ℕ) (d : Event) → e < length es → get_or (map event_of es) e d ≡ event_of (get_or es e no_event)
map_at [] e d h = absurd (not-suc-le-zero h)
map_at (x ∷ es) zero d h = refl
map_at (x ∷ es) (suc e) d h = map_at es e d (omega arith)

pub event-is : (h : WrittenHistory.History) (e : ℕ) → e < length (events_in h) → event (history_of h) e ≡ event_of (get_or (events_in h) e no_event)
unfolding history_of
event-is h e l = map_at (events_in h) e _ l

process-is : (h : WrittenHistory.History) (e : ℕ) → e < length (events_in h) → process (history_of h) e ≡ (get_or (events_in h) e no_event).process.0
unfolding event_of
process-is h e l = ap (λ (x : Event). x.process) (event-is h e l)

-- what reading a history guarantees
pub few-processes : (h : WrittenHistory.History) → HistoryGuarantees.Sound h → FewProcesses (history_of h)
few-processes h s e l =
    let k : e < h.count = omega (arith, size_is h, s.events) in
    rw (process-is h e (omega (arith, size_is h))) (s.event e k).process

-- ---- a window of a history that was read: its ops are write and read, so a read answers the last values written to it
event-behind : (h : WrittenHistory.History) (e : ℕ) → length (events_in h) ≤ e → (event (history_of h) e).op ≡ Read
unfolding history_of
event-behind h e l = rw (get_or-eq_default (map event_of (events_in h)) _ {n = e} (omega (arith, l, length-map (events_in h) event_of)))

op-at : (h : WrittenHistory.History) → HistoryGuarantees.Sound h → (e : ℕ) → e < length (events_in h)
    → has_op (object (history_of h) (event (history_of h) e).object).kind (event (history_of h) e).op ≡ true
unfolding history_of event_of
op-at h s e l = rw (event-is h e l) (s.event e (omega (arith, s.events, l))).op

module _ (h : WrittenHistory.History) (s : HistoryGuarantees.Sound h) (o : ℕ) (declared : o < length (history_of h).objects) (window : (object (history_of h) o).kind ≡ Window) where
  window-ops : (e : ℕ) → (event (history_of h) e).object ≡ o → has_op (object (history_of h) o).kind (event (history_of h) e).op ≡ true
  window-ops e i =
      by-lt e (length (events_in h))
      (λ l. subst (λ (k : ℕ). has_op (object (history_of h) k).kind (event (history_of h) e).op ≡ true) i (op-at h s e l))
      (λ l. rw (window, event-behind h e l))

  pub window-reads : (view : List ℕ) (e : ℕ) → (event (history_of h) e).object ≡ o → (event (history_of h) e).op ≡ Read
      → answered (history_of h) (after_all (history_of h) (start (history_of h)) view) e
      ≡ last_values (object (history_of h) o).width (all_written_to (history_of h) o view)
  window-reads = window-answers (history_of h) o declared window window-ops

-- ---- the processes with events
has-at : (p : ℕ) (es : List WrittenEvent.Event) (i : ℕ) → i < length es → eqb (get_or es i no_event).process.0 p ≡ true → has_events p es ≡ true
unfolding has_events
has-at p [] i h t = absurd (not-suc-le-zero h)
has-at p (e ∷ es) zero h t = true-or-left (has_events p es) t
has-at p (e ∷ es) (suc i) h t = true-or-right (eqb e.process.0 p) (has-at p es i (omega arith) t)

record At (p : ℕ) (es : List WrittenEvent.Event) : Type 0 where
  number : ℕ
  below : number < length es
  same : eqb (get_or es number no_event).process.0 p ≡ true

has_some : (p : ℕ) (es : List WrittenEvent.Event) → has_events p es ≡ true → At p es
unfolding has_events
has_some p [] t = absurd (false≢true t)
has_some p (e ∷ es) t =
    by-test (eqb e.process.0 p)
    (λ s. record { number = 0; below = omega arith; same = s })
    (λ s. let a = has_some p es (rw s at t) in record { number = suc a.number; below = omega (arith, a.below); same = a.same })

active-is : (h : WrittenHistory.History) (p : ℕ) → active (history_of h) p ≡ has_events p (events_in h)
active-is h p =
    same_test (active (history_of h) p) (has_events p (events_in h))
    (λ t.
    let s = any_some (size (history_of h)) (own (history_of h) p) t in
    let l : s.0 < length (events_in h) = omega (arith, size_is h, s.1) in
    has-at p (events_in h) s.0 l (ap (λ (q : ℕ). eqb q p) (sym (process-is h s.0 l)) ∙ s.2))
    (λ t.
    let a = has_some p (events_in h) t in
    any_at (size (history_of h)) (own (history_of h) p) a.number (omega (arith, size_is h, a.below))
    (ap (λ (q : ℕ). eqb q p) (process-is h a.number a.below) ∙ a.same))

kept_by : (b : Bool) (x : ℕ) (l : List ℕ) → keep_if b x l ≡ cond b (x ∷ l) l
kept_by true x l = refl
kept_by false x l = refl

kept-processes : (es : List WrittenEvent.Event) (f : ℕ → Bool) → ((p : ℕ) → f p ≡ has_events p es) → (k n : ℕ) → keep f (count_from k n) ≡ processes_from es k n
unfolding count_from processes_from
kept-processes es f g k zero = refl
kept-processes es f g k (suc n) = rw (kept_by (f k) k (keep f (count_from (k + 1) n)), g k, kept-processes es f g (k + 1) n)

eight : up_to 8 ≡ count_from 0 8
unfolding count_from
eight = refl

pub processes-are : (h : WrittenHistory.History) → processes (history_of h) ≡ processes_from (events_in h) 0 8
unfolding processes
processes-are h = ap (keep (active (history_of h))) eight ∙ kept-processes (events_in h) (active (history_of h)) (active-is h) 0 8

-- ---- how many pasts and views there are, and their numbers
pub past-count : (w : Criterion) (h : WrittenHistory.History) → past_count w (history_of h) ≡ text.past_count w (events_in h)
past-count w h = ap (λ (n : ℕ). cond (has_pasts w) n 0) (size_is h)

pub view-count : (w : Criterion) (h : WrittenHistory.History) → view_count w (history_of h) ≡ length (view_numbers w (events_in h))
unfolding view_numbers
view-count Pram h = ap length (processes-are h)
view-count Weak h = size_is h ∙ sym (count_long 0 (length (events_in h)))
view-count Causal h = size_is h ∙ sym (count_long 0 (length (events_in h)))
view-count Converge h = refl
view-count Sequential h = refl
view-count Strict h = ap length (processes-are h)

pub view-number : (w : Criterion) (h : WrittenHistory.History) (k : ℕ) → k < view_count w (history_of h)
    → view_number w (history_of h) k ≡ get_or (view_numbers w (events_in h)) k 0
unfolding view_numbers
view-number Pram h k l = ap (λ (ps : List ℕ). get_or ps k 0) (processes-are h)
view-number Weak h k l = sym (count_at 0 (length (events_in h)) k 0 (omega (arith, size_is h)) ∙ omega arith)
view-number Causal h k l = sym (count_at 0 (length (events_in h)) k 0 (omega (arith, size_is h)) ∙ omega arith)
view-number Converge h zero l = refl
view-number Converge h (suc k) l = absurd (omega arith)
view-number Sequential h zero l = refl
view-number Sequential h (suc k) l = absurd (omega arith)
view-number Strict h k l = ap (λ (ps : List ℕ). get_or ps k 0) (processes-are h)

-- ---- what reading a certificate guarantees
record Place (e : ℕ) (l : List ℕ) : Type 0 where
  place : ℕ
  below : place < length l
  there : get_or l place 0 ≡ e

mem-place : (e : ℕ) (l : List ℕ) → mem e l ≡ true → Place e l
mem-place e [] t = absurd (false≢true t)
mem-place e (x ∷ l) t =
    by-test (eqb e x)
    (λ s. record { place = 0; below = omega arith; there = sym (eqb-true e x s) })
    (λ s. let p = mem-place e l (rw s at t) in record { place = suc p.place; below = omega (arith, p.below); there = p.there })

rising-from : (x : ℕ) (l : List ℕ) → rising (x ∷ l) ≡ true → RisingFrom (suc x) l
unfolding rising
rising-from x [] r = tt
rising-from x (y ∷ l) r = (ltb-true x y (and_left (ltb x y) (rising (y ∷ l)) r), rising-from y l (and_right (ltb x y) (rising (y ∷ l)) r))

rises : (l : List ℕ) → rising l ≡ true → Rising l
rises [] r = tt
rises (x ∷ l) r = (omega arith, rising-from x l r)

sound-events : {past : Bool} {n : ℕ} {l : List ℕ} → CertificateGuarantees.SoundList past n l → EventsOf n l
sound-events {past} {n} {l} s = (
  λ e t. let p = mem-place e l t in rw p.there at (s.event p.place p.below),
  s.few,
)

-- a list with a number, or the empty one past the last
sound-at : (P : List ℕ → Type 0) (ls : List (List ℕ)) (k : ℕ) → P [] → (k < length ls → P (get_or ls k [])) → P (get_or ls k [])
sound-at P ls k none some =
    by-lt k (length ls) some (λ h. rw (get_or-eq_default ls [] {n = k} h) none)

pub readable : (h : WrittenHistory.History) (c : WrittenCertificate.Certificate) (rows : List (List ℕ))
    → CertificateGuarantees.SoundCertificate (events_in h) c rows → Readable (history_of h) (certificate_of h c rows)
unfolding certificate_of
readable h c rows s =
    let w = c.criterion in
    let n : size (history_of h) ≡ length (events_in h) = size_is h in
    let ps : List (List ℕ) = pasts_in (text.past_count c.criterion (events_in h)) c in
    let vs : List (List ℕ) = views_in (length (view_numbers c.criterion (events_in h))) c rows in
    record {
      pasts_listed = s.pasts ∙ sym (past-count w h);
      views_listed = s.views ∙ sym (view-count w h);
      past = λ k. rw n (sound-at (EventsOf (length (events_in h))) ps k (nil-events (length (events_in h))) (λ l. sound-events (s.past k (omega (arith, s.pasts)))));
      view = λ k. rw n (sound-at (EventsOf (length (events_in h))) vs k (nil-events (length (events_in h))) (λ l. sound-events (s.view k (omega (arith, s.views)))));
      rising = λ k. sound-at Rising ps k tt (λ l. rises (get_or ps k []) ((s.past k (omega (arith, s.pasts))).rises refl));
    }
