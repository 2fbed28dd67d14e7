-- From strict to pram, weak and causal: what a certificate that passed gives to the makers, and the records that are made. Assumes nothing.
use Prim.Native.Nat.{ℕ, ◌<◌}
use native.Mathlib.Omega.{arith}
use mathlib.Core.Path.{◌≡◌, refl, sym, ap, ap₂, ◌∙◌}
use mathlib.Core.Bool.{true, false≢true}
use mathlib.Core.List.{List, []}
use mathlib.Core.Option.{some}
use lib.ListN.{length, get_or, take, replicate}
use lib.Seq.{get_or-take, length-take-le}
use Rattle.history.specs.declared.record.History as WrittenHistory
use Rattle.history.specs.Record.{no_event, events_in}
use Rattle.history.proofs.PadLaws.{pad-none}
use Rattle.certificate.specs.declared.record.Criterion.{Criterion}
use Rattle.certificate.specs.declared.record.Criterion.TheVariants.{Pram, Weak, Causal, Converge, Sequential, Strict}
use Rattle.certificate.specs.declared.record.EventList.{EventList}
use Rattle.certificate.specs.declared.record.Certificate as WrittenCertificate
use Rattle.certificate.specs.declared.numbers.ViewNumbers.{ViewNumbers}
use Rattle.certificate.specs.Record.{no_list, rows_of}
use Rattle.certificate.specs.Criteria.{view_numbers}
use Rattle.certificate.specs.Steps.Numbers.{view_numbers_of, event_each}
use Rattle.criteria.specs.Tests.{table, place}
use Rattle.criteria.specs.History.{History, size, process}
use Rattle.criteria.specs.Certificate.{Certificate, processes, view_count}
use Rattle.criteria.specs.Weaken.{up_to_in, own_part, from_strict, weakened_from, weakened}
use Rattle.criteria.specs.Records.{history_of, certificate_of}
use Rattle.criteria.proofs.Lists.{table_below, place_in}
use Rattle.criteria.proofs.Meeting.{process-listed}
use Rattle.criteria.proofs.RecordLaws.{processes-are, view-count}
use Rattle.orders.specs.Rows.{view_at}
use Rattle.orders.proofs.ViewLaws.{view-first}
use Rattle.certificate.proofs.NumberingLaws.{numbers-in}
use Rattle.faults.proofs.CheckLaws.{few-of, process-at, view-same}
use Rattle.weakened.specs.declared.views.ViewRows.{ViewRows}
use Rattle.weakened.specs.Steps.{lengths_of, view_rows_of}
use Rattle.weakened_records.specs.declared.records.ViewedRecord.{ViewedRecord}
use Rattle.weakened_records.specs.declared.records.Passing.{Passing}
use Rattle.weakened_records.specs.Steps.{IsWeakened}
use Rattle.weakened_records.proofs.PassedLaws.{size-passed, few-numbers, processes-passed, pasts-passed, lengths-passed, rows-passed}
use Rattle.weakened_records.proofs.RecordLaws.{record-parts, is-record, record-made, same-criterion}

-- ---- the weakened certificates
strict-pram : (h : History) (c : Certificate) → c.criterion ≡ Strict → weakened Pram h c ≡ some record { criterion = Pram; pasts = []; views = c.views }
unfolding weakened
strict-pram h c q = ap (λ (w : Criterion). weakened_from w Pram h c) q

strict-event : (w : Criterion) (h : History) (c : Certificate) → event_each w ≡ true → c.criterion ≡ Strict
    → weakened w h c ≡ some record { criterion = w; pasts = c.pasts; views = table (size h) (own_part h c.views) }
unfolding weakened
strict-event w h c t q = ap (λ (x : Criterion). weakened_from x w h c) q ∙ go w t
  where
    go : (w : Criterion) → event_each w ≡ true → from_strict w h c ≡ some record { criterion = w; pasts = c.pasts; views = table (size h) (own_part h c.views) }
    go Pram e = absurd (false≢true e)
    go Weak e = refl
    go Causal e = refl
    go Converge e = absurd (false≢true e)
    go Sequential e = absurd (false≢true e)
    go Strict e = absurd (false≢true e)

module _ (p : Passing) (q : p.of.now.certificate.criterion ≡ Strict) where
  abbrev h : WrittenHistory.History
  h = p.h.now

  abbrev c : WrittenCertificate.Certificate
  c = p.of.now.certificate

  abbrev rows : List (List ℕ)
  rows = p.of.now.views

  abbrev vs : List (List ℕ)
  vs = (certificate_of h c rows).views

  -- ---- to pram
  pub pram-record : (pasts : List EventList) → pasts ≡ replicate 64 no_list
      → IsWeakened Pram h p.of.now (record { certificate = record { criterion = Pram; pasts = pasts; lengths = c.lengths }; views = rows })
  pram-record pasts e =
      is-record _ Pram [] _ _ rows (strict-pram (history_of h) (certificate_of h c rows) (same-criterion h c rows Strict q))
      (record-parts Pram pasts c.lengths [] _ (e ∙ sym (pad-none 64 no_list)) (lengths-passed h c rows p.passed)) (rows-passed h c rows p.passed)

  -- ---- to weak and causal
  module _ (named : ViewNumbers) (numbered : named ≡ view_numbers_of (view_numbers Strict (events_in h)))
      (ps : List ℕ) (long : length ps ≡ 64) (agree : (e : ℕ) → e < 64 → get_or ps e 0 ≡ (get_or h.events e no_event).process.0) where
    abbrev ns : List ℕ
    ns = take named.count named.numbers

    abbrev qs : List ℕ
    qs = take h.count ps

    events-long : length qs ≡ h.count
    events-long = length-take-le h.count ps (omega (arith, long, few-of h p.passed.history))

    numbers-are : ns ≡ processes (history_of h)
    unfolding view_numbers
    numbers-are = numbers-in named _ numbered ∙ sym (processes-are h)

    views-count : length ns ≡ view_count Strict (history_of h)
    views-count = ap length (numbers-in named _ numbered) ∙ sym (view-count Strict h)

    -- the place of the view of e's process
    abbrev slot_at : ℕ → ℕ
    slot_at e = place (get_or qs e 0) ns

    slot_is : (e : ℕ) → e < h.count → slot_at e ≡ place (process (history_of h) e) (processes (history_of h))
    slot_is e l = ap₂ place (get_or-take h.count ps e 0 l ∙ process-at h p.passed.history ps agree e (omega (arith, l, size-passed h c rows p.passed))) numbers-are

    pub slot_small : (e : ℕ) → e < length qs → slot_at e < length ns
    slot_small e i =
        let l : e < h.count = omega (arith, i, events-long) in
        let z = place_in (process (history_of h) e) (processes (history_of h))
        (process-listed (history_of h) e (processes-passed h c rows p.passed) (omega (arith, l, size-passed h c rows p.passed))) in
        omega (arith, z.0, slot_is e l, views-count)

    view-is : (k : ℕ) → k < length ns → view_at (take (length ns) rows) (take (length ns) c.lengths) k ≡ get_or vs k []
    unfolding certificate_of
    view-is k l =
        view-first rows c.lengths (length ns) k l
        ∙ view-same h p.passed.history c rows p.passed.certificate (few-numbers h c rows p.passed c.criterion) (length ns)
        (ap length (numbers-in named _ numbered) ∙ ap (λ (w : Criterion). length (view_numbers w (events_in h))) (sym q)) k l

    abbrev made_at : ℕ → List ℕ
    made_at e = up_to_in (view_at (take (length ns) rows) (take (length ns) c.lengths) (slot_at e)) e

    views-are : table (length qs) made_at ≡ table (size (history_of h)) (own_part (history_of h) vs)
    unfolding own_part
    views-are =
        table_below (length qs) made_at (own_part (history_of h) vs)
        (λ e l.
        ap (λ (v : List ℕ). up_to_in v e)
        (view-is (slot_at e) (slot_small e l) ∙ ap (λ (k : ℕ). get_or vs k []) (slot_is e (omega (arith, l, events-long)))))
        ∙ ap (λ (n : ℕ). table n (own_part (history_of h) vs)) (events-long ∙ sym (size-passed h c rows p.passed))

    pub events-record : (w : Criterion) → event_each w ≡ true → (r : ViewedRecord) (made : ViewRows)
        → (r.certificate ≡ record { criterion = w; pasts = c.pasts; lengths = made.lengths }) × (r.views ≡ made.rows)
        → made ≡ view_rows_of (table (length qs) made_at)
        → IsWeakened w h p.of.now r
    events-record w t r made built m =
        record-made _ w _ _ r c.pasts made built (strict-event w (history_of h) (certificate_of h c rows) t (same-criterion h c rows Strict q))
        (pasts-passed h c rows p.passed) (ap (λ (x : ViewRows). x.rows) m ∙ ap rows_of views-are) (ap (λ (x : ViewRows). x.lengths) m ∙ ap lengths_of views-are)
