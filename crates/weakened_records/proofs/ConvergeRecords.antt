-- From converge to weak: what a certificate that passed gives to the cut of its view, and the record that is made. Assumes nothing.
use Prim.Native.Nat.{ℕ}
use mathlib.Core.Path.{◌≡◌, refl, sym, ap, ap₂, ◌∙◌}
use native.Mathlib.Omega.{arith}
use mathlib.Core.Bool.{Bool, ◌||◌}
use mathlib.Core.List.{List, [], map}
use mathlib.Core.Option.{some}
use lib.Dec.{eqb}
use lib.ListN.{length, get_or, take}
use lib.Seq.{get_or-take, length-take-le}
use Rattle.history.specs.declared.record.History as WrittenHistory
use Rattle.certificate.specs.declared.record.Criterion.{Criterion}
use Rattle.certificate.specs.declared.record.Criterion.TheVariants.{Weak, Converge}
use Rattle.certificate.specs.declared.record.Certificate as WrittenCertificate
use Rattle.certificate.specs.Record.{entries_in, rows_of}
use Rattle.certificate.specs.Criteria.{has_pasts}
use Rattle.criteria.specs.Tests.{table, keep}
use Rattle.criteria.specs.History.{History, size, past_with}
use Rattle.criteria.specs.Certificate.{Certificate, listed, order}
use Rattle.criteria.specs.Weaken.{weakened_from, weakened}
use Rattle.criteria.specs.Records.{history_of, certificate_of}
use Rattle.criteria.proofs.Lists.{table_below}
use Rattle.orders.specs.Rows.{in_row, in_rows, IsOrder}
use Rattle.weakened.specs.declared.views.ViewRows.{ViewRows}
use Rattle.weakened.specs.Steps.{lengths_of, view_rows_of}
use Rattle.weakened_records.specs.declared.records.ViewedRecord.{ViewedRecord}
use Rattle.weakened_records.specs.declared.records.Passing.{Passing}
use Rattle.weakened_records.proofs.PassedLaws.{size-passed, few_passed, pasts-passed, one-begins}
use Rattle.weakened_records.proofs.RecordLaws.{record-made, same-criterion, pasts-order}
use Rattle.weakened_records.specs.Steps.{IsWeakened}

-- ---- the weakened certificate
abbrev cut_views : ℕ → (ℕ → ℕ → Bool) → List ℕ → List (List ℕ)
cut_views n R v = table n (λ e. keep (past_with R e) v)

-- the rows of the first n events are enough
rows-first : (n : ℕ) (rows v : List ℕ) → cut_views n (in_rows (take n rows)) v ≡ cut_views n (in_rows rows) v
rows-first n rows v =
    table_below n (λ e. keep (past_with (in_rows (take n rows)) e) v) (λ e. keep (past_with (in_rows rows) e) v)
    (λ e l. ap (λ (row : ℕ). keep (λ f. in_row row f || eqb f e) v) (get_or-take n rows e 0 l))

converge-weak : (h : History) (c : Certificate) → c.criterion ≡ Converge
    → weakened Weak h c ≡ some record { criterion = Weak; pasts = c.pasts; views = cut_views (size h) (order h c) (get_or c.views 0 []) }
unfolding weakened
converge-weak h c q = ap (λ (w : Criterion). weakened_from w Weak h c) q

module _ (p : Passing) (q : p.of.now.certificate.criterion ≡ Converge) where
  abbrev h : WrittenHistory.History
  h = p.h.now

  abbrev c : WrittenCertificate.Certificate
  c = p.of.now.certificate

  abbrev rows : List (List ℕ)
  rows = p.of.now.views

  module _ (rows_of_lem : List ℕ) (o : IsOrder rows_of_lem (listed (map entries_in (take h.count c.pasts)))) where
    views-are : cut_views h.count (in_rows rows_of_lem) (take h.count (get_or rows 0 []))
        ≡ cut_views (size (history_of h)) (order (history_of h) (certificate_of h c rows)) (get_or (certificate_of h c rows).views 0 [])
    views-are =
        ap (λ (n : ℕ). cut_views n (in_rows rows_of_lem) (take h.count (get_or rows 0 []))) (sym (size-passed h c rows p.passed))
        ∙ ap₂ (cut_views (size (history_of h))) (pasts-order h c rows p.passed.history (ap has_pasts q) rows_of_lem o) (one-begins h c rows p.passed Converge q refl)

    pub converge-record : (r : ViewedRecord) (made : ViewRows)
        → (r.certificate ≡ record { criterion = Weak; pasts = c.pasts; lengths = made.lengths }) × (r.views ≡ made.rows)
        → length rows_of_lem ≡ 64
        → made ≡ view_rows_of (cut_views (length (take h.count rows_of_lem)) (in_rows (take h.count rows_of_lem)) (take h.count (get_or rows 0 [])))
        → IsWeakened Weak h p.of.now r
    converge-record r made built long m =
        let all =
        ap (λ (n : ℕ). cut_views n (in_rows (take h.count rows_of_lem)) (take h.count (get_or rows 0 []))) (length-take-le h.count rows_of_lem (omega (arith, long, few_passed h c rows p.passed)))
        ∙ rows-first h.count rows_of_lem (take h.count (get_or rows 0 []))
        ∙ views-are in
        record-made _ Weak _ _ r c.pasts made built (converge-weak (history_of h) (certificate_of h c rows) (same-criterion h c rows Converge q))
        (pasts-passed h c rows p.passed) (ap (λ (x : ViewRows). x.rows) m ∙ ap rows_of all) (ap (λ (x : ViewRows). x.lengths) m ∙ ap lengths_of all)
