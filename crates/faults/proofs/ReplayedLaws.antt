-- Laws of fault 16: what a search over the parts of a history finds is what the check finds. Assumes nothing.
use Prim.Native.Nat.{ℕ, zero, suc, ◌<◌}
use native.Mathlib.Omega.{arith}
use mathlib.Core.Path.{◌≡◌, refl, sym, ap, ap₂, ◌∙◌}
use mathlib.Core.Bool.{Bool, true, false, false≢true, true≢false}
use mathlib.Core.List.{List, [], ◌∷◌}
use mathlib.Core.Option.{Option, none, some}
use lib.ListN.{length, get_or, take}
use lib.Seq.{get_or-take}
use Rattle.history.specs.declared.record.History as WrittenHistory
use Rattle.history.specs.Record.{no_object, events_in}
use Rattle.history.specs.Readable.{within}
use Rattle.history.proofs.Guarantees.{within-sound}
use Rattle.certificate.specs.declared.record.Criterion.{Criterion}
use Rattle.certificate.specs.declared.record.Criterion.TheVariants.{Pram, Weak, Causal, Converge, Sequential, Strict}
use Rattle.certificate.specs.Record.{beginnings}
use Rattle.certificate.specs.Criteria.{view_numbers}
use Rattle.criteria.specs.Tests.{or, lowest, keep, mem, place}
use Rattle.criteria.proofs.Lists.{mem-keep, place_in}
use Rattle.criteria.specs.History.{History, size, past_with}
use Rattle.criteria.specs.Certificate.{view_count, view_number, replay_count, replayed, visible}
use Rattle.criteria.specs.Replay.{start}
use Rattle.criteria.specs.Check.{Fault, fault16, first_wrong, map_fault, find16}
use Rattle.criteria.specs.Records.{history_of}
use Rattle.criteria.proofs.RecordLaws.{size_is, view-count, view-number}
use Rattle.objects.specs.declared.state.State.{State}
use Rattle.objects.specs.State.{no_state, Fresh}
use Rattle.orders.specs.declared.views.Views.{Views}
use Rattle.orders.specs.Rows.{in_rows, view_at, EventViews}
use Rattle.orders.proofs.ViewLaws.{view-few, view-inside}
use Rattle.replays.specs.declared.replay.Visible.{Visible}
use Rattle.replays.specs.declared.replay.Visible.TheVariants.{Only}
use Rattle.replayed_views.specs.declared.search.Place.{Place}
use Rattle.replays.specs.declared.light.LightHistory.{LightHistory}
use Rattle.replays.specs.Replay.{history_in, contents_in, is_visible, Ready}
use Rattle.replays.specs.Light.{TakenApart}
use Rattle.replayed_views.specs.Search.{at_view, wrong_in}
use Rattle.replays.specs.Visible.{no_visible, visible_at}
use Rattle.replayed_views.specs.Cut.{wrong_cut}
use Rattle.replays.proofs.HistoryLaws.{same-visible, replay-is, ready_of}
use Rattle.replays.proofs.VisibleLaws.{visible-is}
use Rattle.faults.specs.Steps.{is_converge}
use Rattle.faults.proofs.FoundLaws.{lowest-same}
use Rattle.faults.proofs.RecordFacts.{all-keep-few, objects-agree, events-long, object-declared}

-- ---- the lowest that is found
module _ {A : Type 0} where
  -- what holds of all that may be found holds of what is found
  lowest-holds : (P : A → Type 0) (n : ℕ) (f : ℕ → Option A) (a : A) → ((k : ℕ) → k < n → f k ≡ some a → P a) → lowest n f ≡ some a → P a
  lowest-holds P zero f a g e = absurd (true≢false cc)
  lowest-holds P (suc n) f a g e = go (lowest n f) (lowest-holds P n f a (λ k l. g k (omega arith))) e
    where
      go : (o : Option A) → (o ≡ some a → P a) → or o (f n) ≡ some a → P a
      go none below t = g n (omega arith) t
      go (some b) below t = below t

-- a fault for each event that is found
lowest-events : (F : ℕ → Fault) (n : ℕ) (f : ℕ → Option ℕ) → lowest n (λ k. map_fault F (f k)) ≡ map_fault F (lowest n f)
lowest-events F zero f = refl
lowest-events F (suc n) f = rw (lowest-events F n f) (go (lowest n f))
  where
    go : (o : Option ℕ) → or (map_fault F o) (map_fault F (f n)) ≡ map_fault F (or o (f n))
    go none = refl
    go (some e) = refl

-- the fault at a place, where there is one
abbrev pub at_place : List ℕ → Option Place → Option Fault
at_place numbers none = none
at_place numbers (some p) = some (fault16 (get_or numbers p.view 0) p.event.0)

lowest-places : (numbers : List ℕ) (n : ℕ) (f : ℕ → Option Place) → lowest n (λ k. at_place numbers (f k)) ≡ at_place numbers (lowest n f)
lowest-places numbers zero f = refl
lowest-places numbers (suc n) f = rw (lowest-places numbers n f) (go (lowest n f))
  where
    go : (o : Option Place) → or (at_place numbers o) (at_place numbers (f n)) ≡ at_place numbers (or o (f n))
    go none = refl
    go (some p) = refl

place_view : (numbers : List ℕ) (k : ℕ) (o : Option ℕ) → at_place numbers (at_view k o) ≡ map_fault (fault16 (get_or numbers k 0)) o
place_view numbers k none = refl
place_view numbers k (some e) = refl

view-at : (k : ℕ) (o : Option ℕ) (p : Place) → at_view k o ≡ some p → p.view ≡ k
view-at k none p e = cc
view-at k (some x) p e = cc

-- ---- a view of the certificate
take-nil : (n : ℕ) → take {A = ℕ} n [] ≡ []
take-nil zero = refl
take-nil (suc n) = refl

beginning-at : (ns : List ℕ) (rows : List (List ℕ)) (k : ℕ) → get_or (beginnings ns rows) k [] ≡ take (get_or ns k 0) (get_or rows k [])
unfolding beginnings
beginning-at [] rows k = refl
beginning-at (n ∷ ns) [] k = sym (take-nil (get_or (n ∷ ns) k 0))
beginning-at (n ∷ ns) (row ∷ rows) zero = refl
beginning-at (n ∷ ns) (row ∷ rows) (suc k) = beginning-at ns rows k

pub view-begins : (lengths : List ℕ) (views : List (List ℕ)) (m k : ℕ) → k < m
    → take (get_or lengths k 0) (get_or views k []) ≡ get_or (beginnings (take m lengths) (take m views)) k []
view-begins lengths views m k l =
    sym (beginning-at (take m lengths) (take m views) k ∙ ap₂ take (get_or-take m lengths k 0 l) (get_or-take m views k [] l))

-- ---- the criteria
converge-is : (c : Criterion) → is_converge c ≡ true → c ≡ Converge
converge-is Pram e = absurd (false≢true e)
converge-is Weak e = absurd (false≢true e)
converge-is Causal e = absurd (false≢true e)
converge-is Converge e = refl
converge-is Sequential e = absurd (false≢true e)
converge-is Strict e = absurd (false≢true e)

count_same : (c : Criterion) (h : History) → is_converge c ≡ false → replay_count c h ≡ view_count c h
count_same Pram h e = refl
count_same Weak h e = refl
count_same Causal h e = refl
count_same Converge h e = absurd (true≢false e)
count_same Sequential h e = refl
count_same Strict h e = refl

replayed-same : (c : Criterion) (R : ℕ → ℕ → Bool) (vs : List (List ℕ)) (k : ℕ) → is_converge c ≡ false → get_or vs k [] ≡ replayed c R vs k
replayed-same Pram R vs k e = refl
replayed-same Weak R vs k e = refl
replayed-same Causal R vs k e = refl
replayed-same Converge R vs k e = absurd (true≢false e)
replayed-same Sequential R vs k e = refl
replayed-same Strict R vs k e = refl

-- the fault that replay k gives
abbrev fault_of : Criterion → History → (ℕ → ℕ → Bool) → List (List ℕ) → ℕ → Option Fault
fault_of c h R vs k = map_fault (fault16 (view_number c h k)) (first_wrong h (visible c h k) (start h) (replayed c R vs k))

-- ---- what the function asks of its history, criterion and views
abbrev pub Asked : WrittenHistory.History → Criterion → Views → Type 0
Asked h c views =
    (within h ≡ true) × (views.numbers.now ≡ view_numbers c (events_in h))
    × EventViews views.rows.now views.lengths.now (length views.numbers.now) h.count

-- the entries of a view are below n
mem-below : (n : ℕ) (v : List ℕ) → ((i : ℕ) → i < length v → get_or v i 0 < n) → (e : ℕ) → mem e v ≡ true → e < n
mem-below n v f e t = let p = place_in e v t in rw p.1 at (f (place e v) p.0)

-- a history taken apart and the states at the start, of a history, a criterion and views as the function asks for them
pub record Taken (h : WrittenHistory.History) (l : LightHistory) (states : List State) (c : Criterion) (views : Views) : Type 0 where
  pub apart : TakenApart h l
  pub fresh : (o : ℕ) → o < 16 → Fresh (get_or h.objects o no_object) (get_or states o no_state)
  pub long : length states ≡ 16
  pub asked : Asked h c views

pub taken : {h : WrittenHistory.History} {l : LightHistory} {states : List State} (c : Criterion) (views : Views) → TakenApart h l
    → ((o : ℕ) → o < 16 → Fresh (get_or h.objects o no_object) (get_or states o no_state)) → length states ≡ 16 → Asked h c views
    → Taken h l states c views
taken c views apart fresh long asked = record { apart = apart; fresh = fresh; long = long; asked = asked }

module _ {h : WrittenHistory.History} {l : LightHistory} {states : List State} {c : Criterion} {views : Views} (t : Taken h l states c views) where
  counted : length views.numbers.now ≡ length (view_numbers c (events_in h))
  counted = ap length t.asked.1

  -- each view is ready for its replay
  pub view-ready : (k : ℕ) → k < length views.numbers.now → Ready l states (view_at views.rows.now views.lengths.now k)
  view-ready k b =
      ready_of h (within-sound h t.asked.0) l t.apart.events t.apart.long states (view_at views.rows.now views.lengths.now k) (objects-agree h t.asked.0) t.fresh (all-keep-few h t.asked.0)
      (view-few views.rows.now views.lengths.now (length views.numbers.now) h.count t.asked.2 k b) (view-inside views.rows.now views.lengths.now (length views.numbers.now) h.count t.asked.2 k b)

  view-below : (k : ℕ) → k < length views.numbers.now → (e : ℕ) → mem e (view_at views.rows.now views.lengths.now k) ≡ true → e < h.count
  view-below k b = mem-below h.count (view_at views.rows.now views.lengths.now k) (view-inside views.rows.now views.lengths.now (length views.numbers.now) h.count t.asked.2 k b)

  replayed-is : (who : Visible) (view : List ℕ) → ((e : ℕ) → mem e view ≡ true → e < h.count)
      → first_wrong (history_in l) (is_visible (history_in l) who) (contents_in l.values states) view
      ≡ first_wrong (history_of h) (is_visible (history_of h) who) (start (history_of h)) view
  replayed-is who view inside =
      let s = within-sound h t.asked.0 in
      replay-is h l t.apart.events states t.apart.values t.apart.start s.count (events-long h t.asked.0) (omega (arith, s.objects, s.declared, t.long)) (objects-agree h t.asked.0)
      (λ o b. t.fresh o (omega (arith, b, s.objects, s.declared))) who view (λ e q. object-declared h t.asked.0 e (inside e q))

  number_is : (k : ℕ) → k < length views.numbers.now → get_or views.numbers.now k 0 ≡ view_number c (history_of h) k
  number_is k b = ap (λ (ns : List ℕ). get_or ns k 0) t.asked.1 ∙ sym (view-number c h k (omega (arith, b, counted, view-count c h)))

  -- ---- one replay a view
  module _ (R : ℕ → ℕ → Bool) (who : List Visible) (other : is_converge c ≡ false)
      (seen : (k : ℕ) → k < length views.numbers.now → get_or who k no_visible ≡ visible_at c views.numbers.now l.events k) where
    -- the first wrong answer of a view
    wrong-view : (k : ℕ) → k < length views.numbers.now
        → at_place views.numbers.now (wrong_in (history_in l) (contents_in l.values states) who views.rows.now views.lengths.now k)
        ≡ fault_of c (history_of h) R (beginnings views.lengths.now views.rows.now) k
    wrong-view k b =
        let view : List ℕ = view_at views.rows.now views.lengths.now k in
        let there : k < view_count c (history_of h) = omega (arith, b, counted, view-count c h) in
        place_view views.numbers.now k (first_wrong (history_in l) (is_visible (history_in l) (get_or who k no_visible)) (contents_in l.values states) view)
        ∙ ap₂ (λ (i : ℕ) (o : Option ℕ). map_fault (fault16 i) o) (number_is k b)
        (replayed-is (get_or who k no_visible) view (view-below k b)
        ∙ ap (λ (x : Visible). first_wrong (history_of h) (is_visible (history_of h) x) (start (history_of h)) view) (seen k b)
        ∙ same-visible (history_of h) (is_visible (history_of h) (visible_at c views.numbers.now l.events k)) (visible c (history_of h) k)
        (visible-is h l.events views.numbers.now (within-sound h t.asked.0).count (within-sound h t.asked.0).events t.apart.events.lights c k (omega (arith, there, count_same c (history_of h) other)) (λ _. ap (λ (ns : List ℕ). get_or ns k 0) t.asked.1))
        (start (history_of h)) view
        ∙ ap (first_wrong (history_of h) (visible c (history_of h) k) (start (history_of h)))
        (sym (beginning-at views.lengths.now views.rows.now k) ∙ replayed-same c R (beginnings views.lengths.now views.rows.now) k other))

    module _ (found : Option Place) (q : found ≡ lowest (length views.numbers.now) (wrong_in (history_in l) (contents_in l.values states) who views.rows.now views.lengths.now)) where
      pub place_is : at_place views.numbers.now found ≡ find16 c (history_of h) R (beginnings views.lengths.now views.rows.now)
      place_is =
          let f : ℕ → Option Place = wrong_in (history_in l) (contents_in l.values states) who views.rows.now views.lengths.now in
          let n : length views.numbers.now ≡ replay_count c (history_of h) = counted ∙ sym (view-count c h) ∙ sym (count_same c (history_of h) other) in
          ap (at_place views.numbers.now) q
          ∙ sym (lowest-places views.numbers.now (length views.numbers.now) f)
          ∙ lowest-same (length views.numbers.now) (λ k. at_place views.numbers.now (f k)) (fault_of c (history_of h) R (beginnings views.lengths.now views.rows.now)) wrong-view
          ∙ ap (λ (i : ℕ). lowest i (fault_of c (history_of h) R (beginnings views.lengths.now views.rows.now))) n

      pub place-below : (p : Place) → found ≡ some p → p.view < length views.numbers.now
      place-below p is =
          lowest-holds (λ (x : Place). x.view < length views.numbers.now) (length views.numbers.now) (wrong_in (history_in l) (contents_in l.values states) who views.rows.now views.lengths.now) p
          (λ k b e.
          let z : p.view ≡ k =
          view-at k (first_wrong (history_in l) (is_visible (history_in l) (get_or who k no_visible)) (contents_in l.values states) (view_at views.rows.now views.lengths.now k)) p e in
          omega (arith, z, b)) (sym q ∙ is)

  -- ---- converge: one replay an event
  pub view-there : is_converge c ≡ true → 0 < length views.numbers.now
  view-there one = omega (arith, counted, view-count c h, ap (λ (x : Criterion). view_count x (history_of h)) (converge-is c one))

  module _ (rows : List ℕ) (one : is_converge c ≡ true) where
    -- the first wrong answer of the part of an event
    wrong-part : (e : ℕ)
        → wrong_cut (history_in l) (contents_in l.values states) rows (view_at views.rows.now views.lengths.now 0) e
        ≡ first_wrong (history_of h) (visible Converge (history_of h) e) (start (history_of h))
        (replayed Converge (in_rows rows) (beginnings views.lengths.now views.rows.now) e)
    wrong-part e =
        replayed-is (Only record { 0 = e }) (keep (past_with (in_rows rows) e) (view_at views.rows.now views.lengths.now 0))
        (λ f m. view-below 0 (view-there one) f (mem-keep (past_with (in_rows rows) e) f (view_at views.rows.now views.lengths.now 0) m).1)
        ∙ ap (λ (v : List ℕ). first_wrong (history_of h) (is_visible (history_of h) (Only record { 0 = e })) (start (history_of h)) (keep (past_with (in_rows rows) e) v))
        (sym (beginning-at views.lengths.now views.rows.now 0))

    module _ (found : Option ℕ) (q : found ≡ lowest l.size (wrong_cut (history_in l) (contents_in l.values states) rows (view_at views.rows.now views.lengths.now 0))) where
      event-is-converge : map_fault (fault16 (get_or views.numbers.now 0 0)) found
          ≡ find16 Converge (history_of h) (in_rows rows) (beginnings views.lengths.now views.rows.now)
      event-is-converge =
          let f : ℕ → Option ℕ = wrong_cut (history_in l) (contents_in l.values states) rows (view_at views.rows.now views.lengths.now 0) in
          let zero-is : get_or views.numbers.now 0 0 ≡ 0 = number_is 0 (view-there one) ∙ ap (λ (x : Criterion). view_number x (history_of h) 0) (converge-is c one) in
          let n : l.size ≡ size (history_of h) = t.apart.events.size ∙ sym (size_is h ∙ (within-sound h t.asked.0).events) in
          ap₂ (λ (i : ℕ) (o : Option ℕ). map_fault (fault16 i) o) zero-is q
          ∙ sym (lowest-events (fault16 0) l.size f)
          ∙ lowest-same l.size (λ k. map_fault (fault16 0) (f k)) (fault_of Converge (history_of h) (in_rows rows) (beginnings views.lengths.now views.rows.now))
          (λ k b. ap (map_fault (fault16 0)) (wrong-part k))
          ∙ ap (λ (i : ℕ). lowest i (fault_of Converge (history_of h) (in_rows rows) (beginnings views.lengths.now views.rows.now))) n

      pub event-is : map_fault (fault16 (get_or views.numbers.now 0 0)) found
          ≡ find16 c (history_of h) (in_rows rows) (beginnings views.lengths.now views.rows.now)
      event-is =
          event-is-converge
          ∙ ap (λ (x : Criterion). find16 x (history_of h) (in_rows rows) (beginnings views.lengths.now views.rows.now)) (sym (converge-is c one))
