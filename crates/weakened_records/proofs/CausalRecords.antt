-- From causal to weak and to pram: what a certificate that passed gives to the makers, and the records that are made. Assumes nothing.
use Prim.Native.Nat.{ℕ, zero, suc, ◌≤◌, ◌<◌}
use native.Mathlib.Omega.{arith}
use mathlib.Core.Path.{◌≡◌, refl, sym, ap, ap₂, subst, ◌∙◌}
use mathlib.Core.Bool.{Bool}
use mathlib.Core.List.{List, []}
use mathlib.Core.Option.{some}
use lib.Dec.{eqb}
use lib.ListN.{length, get_or, take, replicate, get_or-map}
use lib.Seq.{get_or-take, length-take-le}
use Rattle.layout.proofs.Cases.{by-lt}
use Rattle.history.specs.declared.record.Event as WrittenEvent
use Rattle.history.specs.declared.record.History as WrittenHistory
use Rattle.history.specs.Record.{no_event, events_in}
use Rattle.history.proofs.PadLaws.{pad-none}
use Rattle.certificate.specs.declared.record.Criterion.{Criterion}
use Rattle.certificate.specs.declared.record.Criterion.TheVariants.{Pram, Weak, Causal}
use Rattle.certificate.specs.declared.record.EventList.{EventList}
use Rattle.certificate.specs.declared.record.Certificate as WrittenCertificate
use Rattle.certificate.specs.declared.numbers.ViewNumbers.{ViewNumbers}
use Rattle.certificate.specs.Record.{no_list}
use Rattle.certificate.specs.Criteria.{has_events, processes_from, view_numbers}
use Rattle.certificate.specs.Steps.Numbers.{view_numbers_of}
use Rattle.criteria.specs.Tests.{highest, table}
use Rattle.criteria.specs.History.{Event, History, size, own, IsView}
use Rattle.criteria.specs.Certificate.{Certificate, order, processes, view_count, view_set}
use Rattle.criteria.specs.Weaken.{completed, last_of, weakened_from, weakened}
use Rattle.criteria.specs.Records.{history_of, certificate_of}
use Rattle.criteria.proofs.Lists.{table_below, Once, once-of-count}
use Rattle.criteria.proofs.RecordLaws.{view-count, view-number}
use Rattle.orders.specs.declared.views.Views.{Views}
use Rattle.orders.specs.Rows.{view_at, EventViews}
use Rattle.weakened.specs.declared.views.ViewRows.{ViewRows}
use Rattle.weakened.specs.Steps.{view_rows_of, last_in}
use Rattle.weakened_records.specs.declared.records.ViewedRecord.{ViewedRecord}
use Rattle.weakened_records.specs.declared.records.Passing.{Passing}
use Rattle.weakened.proofs.CausalLaws.{last-below}
use Rattle.orders.proofs.ViewLaws.{view-first, views-first}
use Rattle.certificate.proofs.NumberingLaws.{numbers-in}
use Rattle.faults.proofs.CheckLaws.{process-of, event-views, view-same}
use Rattle.weakened_records.proofs.PassedLaws.{size-passed, few_passed, few-numbers, pasts-passed, lengths-passed, rows-passed, good-passed}
use Rattle.weakened_records.proofs.RecordLaws.{record-parts, is-record, record-made, same-criterion}
use Rattle.weakened_records.specs.Steps.{IsWeakened}

-- ---- searches of what agrees below n
highest-below : (n : ℕ) (f g : ℕ → Bool) → ((k : ℕ) → k < n → f k ≡ g k) → highest n f ≡ highest n g
highest-below zero f g h = refl
highest-below (suc n) f g h = rw (highest-below n f g (λ k l. h k (omega arith)), h n (omega arith))

-- ---- no process has events where there are none
no-views : (n : ℕ) (events : List WrittenEvent.Event) → n ≡ 0 → length (view_numbers Pram (take n events)) ≡ 0
unfolding view_numbers processes_from has_events
no-views n events q = rw q refl

-- ---- the weakened certificates
causal-weak : (h : History) (c : Certificate) → c.criterion ≡ Causal → weakened Weak h c ≡ some record { criterion = Weak; pasts = c.pasts; views = c.views }
unfolding weakened
causal-weak h c q = ap (λ (w : Criterion). weakened_from w Weak h c) q

abbrev last_view : History → List (List ℕ) → ℕ → List ℕ
last_view h vs k = completed (size h) (get_or vs (last_of h (get_or (processes h) k 0)) [])

causal-pram : (h : History) (c : Certificate) → c.criterion ≡ Causal
    → weakened Pram h c ≡ some record { criterion = Pram; pasts = []; views = table (view_count Pram h) (last_view h c.views) }
unfolding weakened
causal-pram h c q = ap (λ (w : Criterion). weakened_from w Pram h c) q

module _ (p : Passing) (q : p.of.now.certificate.criterion ≡ Causal) where
  abbrev h : WrittenHistory.History
  h = p.h.now

  abbrev c : WrittenCertificate.Certificate
  c = p.of.now.certificate

  abbrev rows : List (List ℕ)
  rows = p.of.now.views

  -- ---- to weak
  pub weak-record : IsWeakened Weak h p.of.now (record { certificate = record { criterion = Weak; pasts = c.pasts; lengths = c.lengths }; views = rows })
  weak-record =
      is-record _ Weak _ _ _ rows (causal-weak (history_of h) (certificate_of h c rows) (same-criterion h c rows Causal q))
      (record-parts Weak c.pasts c.lengths _ _ (pasts-passed h c rows p.passed) (lengths-passed h c rows p.passed)) (rows-passed h c rows p.passed)

  -- ---- the views are one an event, and none of their events stands twice
  count-is : view_count c.criterion (history_of h) ≡ h.count
  count-is = ap (λ (w : Criterion). view_count w (history_of h)) q ∙ size-passed h c rows p.passed

  own-count : length (view_numbers Causal (events_in h)) ≡ h.count
  own-count = sym (view-count Causal h) ∙ size-passed h c rows p.passed

  view-is : (k : ℕ) → k < h.count → view_at rows c.lengths k ≡ get_or (certificate_of h c rows).views k []
  unfolding certificate_of
  view-is = view-same h p.passed.history c rows p.passed.certificate (few-numbers h c rows p.passed c.criterion) h.count (sym count-is ∙ view-count c.criterion h)

  view-once : (k : ℕ) → k < h.count → Once (get_or (certificate_of h c rows).views k [])
  unfolding certificate_of IsView
  view-once k l =
      once-of-count (view_set c.criterion (history_of h) (order (history_of h) (certificate_of h c rows)) k) (get_or (certificate_of h c rows).views k [])
      ((good-passed h c rows p.passed).is_view k (omega (arith, l, count-is)))

  -- the views of the events are lists of events, none twice
  lists-events : EventViews rows c.lengths h.count h.count
  lists-events = event-views h p.passed.history c rows p.passed.certificate (few-numbers h c rows p.passed c.criterion) h.count (few_passed h c rows p.passed)

  lists-once : (k : ℕ) → k < h.count → Once (view_at rows c.lengths k)
  lists-once k l = rw (view-is k l) (view-once k l)

  -- ---- to pram
  module _ (named : ViewNumbers) (numbered : named ≡ view_numbers_of (view_numbers Pram (events_in h)))
      (ps : List ℕ) (long : length ps ≡ 64) (agree : (e : ℕ) → e < 64 → get_or ps e 0 ≡ (get_or h.events e no_event).process.0) where
    abbrev ns : List ℕ
    ns = take named.count named.numbers

    abbrev qs : List ℕ
    qs = take h.count ps

    named-is : ns ≡ view_numbers Pram (events_in h)
    named-is = numbers-in named _ numbered

    events-long : length qs ≡ h.count
    events-long = length-take-le h.count ps (omega (arith, long, few_passed h c rows p.passed))

    none-without : length qs ≡ 0 → length ns ≡ 0
    none-without z = ap length named-is ∙ no-views h.count h.events (omega (arith, z, events-long))

    -- the first views, one an event
    abbrev vs : List (List ℕ)
    vs = take h.count rows

    abbrev ls : List ℕ
    ls = take h.count c.lengths

    listed-events : EventViews vs ls (length qs) (length qs)
    listed-events = subst (λ (n : ℕ). EventViews vs ls n n) (sym events-long) (views-first rows c.lengths h.count h.count lists-events)

    listed-once : (k : ℕ) → k < length qs → Once (view_at vs ls k)
    listed-once k l =
        let b : k < h.count = omega (arith, l, events-long) in
        subst Once (sym (view-first rows c.lengths h.count k b)) (lists-once k b)

    last-is : (k : ℕ) → last_in h.count qs k ≡ last_of (history_of h) k
    unfolding last_of
    last-is k =
        highest-below h.count (λ e. eqb (get_or qs e 0) k) (own (history_of h) k)
        (λ e l.
        ap (λ (x : ℕ). eqb x k)
        (get_or-take h.count ps e 0 l ∙ agree e (omega (arith, l, few_passed h c rows p.passed)) ∙ sym (process-of h p.passed.history e l) ∙ get_or-map (λ (x : Event). x.process) (history_of h).events e _))
        ∙ ap (λ (n : ℕ). highest n (own (history_of h) k)) (sym (size-passed h c rows p.passed))

    views-count : length ns ≡ view_count Pram (history_of h)
    views-count = ap length named-is ∙ sym (view-count Pram h)

    some-events : 0 < length ns → 0 < h.count
    some-events l = by-lt 0 h.count (λ m. m) (λ m. absurd (omega (arith, l, none-without (omega (arith, m, events-long)))))

    abbrev made_at : ℕ → List ℕ
    made_at k = completed (length qs) (view_at vs ls (last_in (length qs) qs (get_or ns k 0)))

    made-is : (k : ℕ) → k < length ns → made_at k ≡ last_view (history_of h) (certificate_of h c rows).views k
    made-is k l =
        let n : get_or ns k 0 ≡ get_or (processes (history_of h)) k 0 =
        ap (λ (x : List ℕ). get_or x k 0) named-is ∙ sym (view-number Pram h k (omega (arith, l, views-count))) in
        let b = last-below h.count (λ e. eqb (get_or qs e 0) (get_or ns k 0)) (some-events (omega (arith, l))) in
        ap (λ (m : ℕ). completed m (view_at vs ls (last_in m qs (get_or ns k 0)))) events-long
        ∙ ap₂ completed (sym (size-passed h c rows p.passed))
        (view-first rows c.lengths h.count (last_in h.count qs (get_or ns k 0)) b
        ∙ view-is (last_in h.count qs (get_or ns k 0)) b
        ∙ ap (λ (e : ℕ). get_or (certificate_of h c rows).views e []) (last-is (get_or ns k 0) ∙ ap (last_of (history_of h)) n))

    views-are : table (length ns) made_at ≡ table (view_count Pram (history_of h)) (last_view (history_of h) (certificate_of h c rows).views)
    views-are =
        table_below (length ns) made_at (last_view (history_of h) (certificate_of h c rows).views) made-is
        ∙ ap (λ (n : ℕ). table n (last_view (history_of h) (certificate_of h c rows).views)) views-count

    -- the views `v` are the first ones, as many as causal numbers, and `numbers` are those of pram
    module _ (v : Views) (own : List ℕ) (each : own ≡ view_numbers Causal (events_in h)) (first : v.rows.now ≡ take (length own) rows)
        (first-lengths : v.lengths.now ≡ take (length own) c.lengths) (numbers : List ℕ) (all : numbers ≡ ns) where
      own-long : length own ≡ h.count
      own-long = ap length each ∙ own-count

      -- what is asked where they are completed
      pub completes : v.numbers.now ≡ own
          → (length qs ≤ length v.numbers.now) × (length numbers ≤ 64) × (length qs ≡ 0 → length numbers ≡ 0) × EventViews v.rows.now v.lengths.now (length qs) (length qs) × ((k : ℕ) → k < length qs → Once (view_at v.rows.now v.lengths.now k))
      completes q = (
        omega (arith, events-long, own-long, ap length q),
        rw (all ∙ named-is) (few-numbers h c rows p.passed Pram),
        rw all none-without,
        rw (first, first-lengths, own-long) listed-events,
        rw (first, first-lengths, own-long) listed-once,
      )

      pub pram-record : (r : ViewedRecord) (pasts : List EventList) (made : ViewRows)
          → (r.certificate ≡ record { criterion = Pram; pasts = pasts; lengths = made.lengths }) × (r.views ≡ made.rows)
          → pasts ≡ replicate 64 no_list
          → made ≡ view_rows_of (table (length numbers) (λ k. completed (length qs) (view_at v.rows.now v.lengths.now (last_in (length qs) qs (get_or numbers k 0)))))
          → IsWeakened Pram h p.of.now r
      pram-record r pasts made built e m =
          let is = (rw (first, first-lengths, own-long, all) at m) ∙ ap view_rows_of views-are in
          record-made _ Pram [] _ r pasts made built (causal-pram (history_of h) (certificate_of h c rows) (same-criterion h c rows Causal q))
          (e ∙ sym (pad-none 64 no_list)) (ap (λ (x : ViewRows). x.rows) is) (ap (λ (x : ViewRows). x.lengths) is)
