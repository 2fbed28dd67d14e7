-- The records of weakened certificates are those of the lists, and rows of pasts are the order of the lists. Assumes nothing.
use Prim.Native.Nat.{ℕ}
use mathlib.Core.Path.{◌≡◌, refl, sym, ap, ap₂, ◌∙◌, subst, fun_ext}
use mathlib.Core.Bool.{Bool, true, cond, false≢true}
use mathlib.Core.List.{List, [], map}
use mathlib.Core.Option.{Option, none, some}
use lib.ListN.{length, get_or, take}
use Rattle.history.specs.declared.record.History as WrittenHistory
use Rattle.history.specs.Record.{events_in, pad}
use Rattle.history.specs.Readable.{within}
use Rattle.certificate.specs.declared.record.Criterion.{Criterion}
use Rattle.certificate.specs.declared.record.Criterion.TheVariants.{Pram, Weak, Causal, Converge, Sequential, Strict}
use Rattle.certificate.specs.declared.record.EventList.{EventList}
use Rattle.certificate.specs.declared.record.Certificate as WrittenCertificate
use Rattle.certificate.specs.Record.{no_list, event_list_of, entries_in, rows_of}
use Rattle.certificate.specs.Record as TextRecord
use Rattle.criteria.specs.Tests.{table}
use Rattle.criteria.specs.History.{History, size}
use Rattle.certificate.specs.Criteria.{has_pasts, view_numbers}
use Rattle.criteria.specs.Certificate.{Certificate, view_count, listed, order_by, order}
use Rattle.criteria.specs.Weaken.{precedes, pasts_of, up_to_in, is_pair, from_sequential, weakened_from, weakened}
use Rattle.criteria.specs.Records.{history_of, certificate_of}
use Rattle.criteria.proofs.RecordLaws.{size_is, view-count}
use Rattle.criteria.proofs.Weaken.{is_some, pair-weakened, weakened-itself}
use Rattle.certificate.specs.declared.numbers.ViewNumbers.{ViewNumbers}
use Rattle.certificate.specs.Steps.Numbers.{view_numbers_of, event_each}
use Rattle.orders.specs.Rows.{in_rows, IsOrder}
use Rattle.faults.proofs.CheckLaws.{size_of}
use Rattle.certificate.proofs.NumberingLaws.{counted}
use Rattle.weakened.specs.declared.views.ViewRows.{ViewRows}
use Rattle.weakened.specs.Steps.{lengths_of, view_rows_of}
use Rattle.weakened_records.specs.declared.records.ViewedRecord.{ViewedRecord}
use Rattle.weakened_records.specs.declared.records.Passing.{Passing}
use Rattle.weakened_records.specs.Steps.{IsRecordOf, IsWeakened}
use Rattle.weakened_records.proofs.PassedLaws.{size-passed, fits-passed, rows-passed, one-begins, one-long}

-- ---- the record of lists
pub record-parts : (w : Criterion) (ps : List EventList) (ls : List ℕ) (pasts views : List (List ℕ))
    → ps ≡ pad 64 no_list (map event_list_of pasts) → ls ≡ lengths_of views
    → ◌≡◌ {A = WrittenCertificate.Certificate} (record { criterion = w; pasts = ps; lengths = ls }) (TextRecord.certificate_of w pasts views)
unfolding TextRecord.certificate_of lengths_of
record-parts w ps ls pasts views p q = rw (p, q)

pub is-record : (o : Option Certificate) (w : Criterion) (pasts views : List (List ℕ)) (x : WrittenCertificate.Certificate) (rows : List (List ℕ))
    → o ≡ some record { criterion = w; pasts = pasts; views = views } → x ≡ TextRecord.certificate_of w pasts views → rows ≡ rows_of views → IsRecordOf o x rows
is-record o w pasts views x rows q a b = subst (λ (y : Option Certificate). IsRecordOf y x rows) (sym q) (a, b)

-- the record that was built of a criterion, pasts and views
pub record-made : (o : Option Certificate) (w : Criterion) (pasts views : List (List ℕ)) (r : ViewedRecord) (ps : List EventList) (made : ViewRows)
    → (r.certificate ≡ record { criterion = w; pasts = ps; lengths = made.lengths }) × (r.views ≡ made.rows)
    → o ≡ some record { criterion = w; pasts = pasts; views = views } → ps ≡ pad 64 no_list (map event_list_of pasts)
    → made.rows ≡ rows_of views → made.lengths ≡ lengths_of views → IsRecordOf o r.certificate r.views
record-made o w pasts views r ps made built q p a b =
    is-record o w pasts views r.certificate r.views q (built.0 ∙ record-parts w ps made.lengths pasts views p b) (built.1 ∙ a)

-- ---- the order of a record with pasts
pub pasts-order : (h : WrittenHistory.History) (c : WrittenCertificate.Certificate) (rows : List (List ℕ)) → within h ≡ true → has_pasts c.criterion ≡ true
    → (rows_of_lem : List ℕ) → IsOrder rows_of_lem (listed (map entries_in (take h.count c.pasts))) → in_rows rows_of_lem ≡ order (history_of h) (certificate_of h c rows)
unfolding certificate_of
pasts-order h c rows w t rows_of_lem o =
    fun_ext (λ a. fun_ext (λ b. o a b)) ∙ by-pasts (has_pasts c.criterion) t h.count (length (events_in h)) (sym (size_is h) ∙ size_of h w)
  where
    by-pasts : (t : Bool) → t ≡ true → (n m : ℕ) → m ≡ n
        → listed (map entries_in (take n c.pasts)) ≡ order_by t (history_of h) (map entries_in (take (cond t m 0) c.pasts))
    by-pasts t e n m s = rw (e, s)

-- ---- from sequential
from-sequential : (w : Criterion) (h : History) (c : Certificate) → c.criterion ≡ Sequential → weakened w h c ≡ from_sequential w h c (get_or c.views 0 [])
unfolding weakened
from-sequential w h c q = ap (λ (x : Criterion). weakened_from x w h c) q

-- to any other criterion: pasts where it has them, and a view an event or a process
other-lists : (w : Criterion) → (w ≡ Sequential → ⊥) → (h : History) (c : Certificate) (v : List ℕ) (n m : ℕ) → c.criterion ≡ Sequential → v ≡ get_or c.views 0 []
    → n ≡ size h → m ≡ view_count w h
    → weakened w h c
    ≡ some record {
      criterion = w;
      pasts = cond (has_pasts w) (pasts_of n (precedes v)) [];
      views = cond (event_each w) (table n (up_to_in v)) (table m (λ _. v));
    }
other-lists w other h c v n m q b k l =
    from-sequential w h c q
    ∙ go w other (get_or c.views 0 [])
    ∙ ap₂
    (λ (i : ℕ) (u : List ℕ).
    some
    record {
      criterion = w;
      pasts = cond (has_pasts w) (pasts_of i (precedes u)) [];
      views = cond (event_each w) (table i (up_to_in u)) (table (view_count w h) (λ _. u));
    }) (sym k) (sym b)
    ∙ ap
    (λ (i : ℕ).
    some
    record {
      criterion = w;
      pasts = cond (has_pasts w) (pasts_of n (precedes v)) [];
      views = cond (event_each w) (table n (up_to_in v)) (table i (λ _. v));
    }) (sym l)
  where
    go : (w : Criterion) → (w ≡ Sequential → ⊥) → (u : List ℕ)
        → from_sequential w h c u
        ≡ some record {
          criterion = w;
          pasts = cond (has_pasts w) (pasts_of (size h) (precedes u)) [];
          views = cond (event_each w) (table (size h) (up_to_in u)) (table (view_count w h) (λ _. u));
        }
    go Pram e u = refl
    go Weak e u = refl
    go Causal e u = refl
    go Converge e u = refl
    go Sequential e u = absurd (e refl)
    go Strict e u = refl

-- ---- to itself
pub causal-stays : (w : Criterion) → (w ≡ Pram → ⊥) → (w ≡ Weak → ⊥) → is_pair Causal w ≡ true → w ≡ Causal
causal-stays Pram a b t = absurd (a refl)
causal-stays Weak a b t = absurd (b refl)
causal-stays Causal a b t = refl
causal-stays Converge a b t = absurd (false≢true t)
causal-stays Sequential a b t = absurd (false≢true t)
causal-stays Strict a b t = absurd (false≢true t)

pub converge-stays : (w : Criterion) → (w ≡ Weak → ⊥) → is_pair Converge w ≡ true → w ≡ Converge
converge-stays Pram a t = absurd (false≢true t)
converge-stays Weak a t = absurd (a refl)
converge-stays Causal a t = absurd (false≢true t)
converge-stays Converge a t = refl
converge-stays Sequential a t = absurd (false≢true t)
converge-stays Strict a t = absurd (false≢true t)

pub strict-stays : (w : Criterion) → (w ≡ Pram → ⊥) → (w ≡ Weak → ⊥) → (w ≡ Causal → ⊥) → is_pair Strict w ≡ true → w ≡ Strict
strict-stays Pram a b d t = absurd (a refl)
strict-stays Weak a b d t = absurd (b refl)
strict-stays Causal a b d t = absurd (d refl)
strict-stays Converge a b d t = absurd (false≢true t)
strict-stays Sequential a b d t = absurd (false≢true t)
strict-stays Strict a b d t = refl

-- pram and weak go to themselves only
pub others-stay : (named w : Criterion) → (named ≡ Causal → ⊥) → (named ≡ Converge → ⊥) → (named ≡ Sequential → ⊥) → (named ≡ Strict → ⊥)
    → is_pair named w ≡ true → w ≡ named
others-stay Pram Pram a b d e t = refl
others-stay Pram Weak a b d e t = absurd (false≢true t)
others-stay Pram Causal a b d e t = absurd (false≢true t)
others-stay Pram Converge a b d e t = absurd (false≢true t)
others-stay Pram Sequential a b d e t = absurd (false≢true t)
others-stay Pram Strict a b d e t = absurd (false≢true t)
others-stay Weak Pram a b d e t = absurd (false≢true t)
others-stay Weak Weak a b d e t = refl
others-stay Weak Causal a b d e t = absurd (false≢true t)
others-stay Weak Converge a b d e t = absurd (false≢true t)
others-stay Weak Sequential a b d e t = absurd (false≢true t)
others-stay Weak Strict a b d e t = absurd (false≢true t)
others-stay Causal w a b d e t = absurd (a refl)
others-stay Converge w a b d e t = absurd (b refl)
others-stay Sequential w a b d e t = absurd (d refl)
others-stay Strict w a b d e t = absurd (e refl)

-- the criterion wanted is the one named, or the two are no pair
pub only-itself : (named wanted : Criterion) (h : History) (c : Certificate) → c.criterion ≡ named → (is_pair named wanted ≡ true → wanted ≡ named)
    → (d : Certificate) → weakened wanted h c ≡ some d → d ≡ c
unfolding weakened
only-itself named wanted h c q same d e =
    let pair = ap (λ (w : Criterion). is_pair w wanted) (sym q) ∙ sym (pair-weakened wanted h c) ∙ ap is_some e in
    same_some (sym (weakened-itself c.criterion h c) ∙ ap (λ (w : Criterion). weakened_from c.criterion w h c) (q ∙ sym (same pair)) ∙ e)
  where
    same_some : some c ≡ some d → d ≡ c
    same_some e = cc

-- ---- the records that are made
-- the criterion of the lists is that of the record
pub same-criterion : (h : WrittenHistory.History) (c : WrittenCertificate.Certificate) (rows : List (List ℕ)) (w : Criterion) → c.criterion ≡ w
    → (certificate_of h c rows).criterion ≡ w
unfolding certificate_of
same-criterion h c rows w q = q

-- the criterion wanted is the one that was matched
pub wanted-as : (h : WrittenHistory.History) (of r : ViewedRecord) {w x : Criterion} → w ≡ x → IsWeakened x h of r → IsWeakened w h of r
wanted-as h of r {w} {x} q i = subst (λ (y : Criterion). IsWeakened y h of r) (sym q) i

module _ (p : Passing) where
  abbrev h : WrittenHistory.History
  h = p.h.now

  abbrev c : WrittenCertificate.Certificate
  c = p.of.now.certificate

  abbrev rows : List (List ℕ)
  rows = p.of.now.views

  own-record : IsRecordOf (some (certificate_of h c rows)) c rows
  unfolding certificate_of
  own-record = ((fits-passed h c rows p.passed).record_is, rows-passed h c rows p.passed)

  itself-is : (o : Option Certificate) → ((d : Certificate) → o ≡ some d → d ≡ certificate_of h c rows) → IsRecordOf o c rows
  itself-is none f = tt
  itself-is (some d) f = subst (λ (x : Certificate). IsRecordOf (some x) c rows) (sym (f d refl)) own-record

  -- the same record, where the criterion wanted is the one named or the two are no pair
  pub stays-record : (named w : Criterion) → c.criterion ≡ named → (is_pair named w ≡ true → w ≡ named)
      → IsWeakened w h p.of.now p.of.now
  stays-record named w q same =
      itself-is (weakened w (history_of h) (certificate_of h c rows))
      (only-itself named w (history_of h) (certificate_of h c rows) (same-criterion h c rows named q) same)

  module _ (is : c.criterion ≡ Sequential) (w : Criterion) (other : w ≡ Sequential → ⊥) (named : ViewNumbers)
      (numbered : named ≡ view_numbers_of (view_numbers w (events_in h))) (r : ViewedRecord) (ps : List EventList) (made : ViewRows)
      (built : (r.certificate ≡ record { criterion = w; pasts = ps; lengths = made.lengths }) × (r.views ≡ made.rows)) where
    abbrev order-line : List ℕ
    order-line = take h.count (get_or rows 0 [])

    pub other-record : ps ≡ pad 64 no_list (map event_list_of (cond (has_pasts w) (pasts_of (length order-line) (precedes order-line)) []))
        → made ≡ view_rows_of (cond (event_each w) (table (length order-line) (up_to_in order-line)) (table named.count (λ _. order-line)))
        → IsWeakened w h p.of.now r
    other-record pasts e =
        record-made _ w _ _ r ps made built
        (other-lists w other (history_of h) (certificate_of h c rows) order-line (length order-line) named.count (same-criterion h c rows Sequential is)
        (one-begins h c rows p.passed Sequential is refl) (one-long h c rows p.passed Sequential is refl ∙ sym (size-passed h c rows p.passed))
        (counted named _ numbered ∙ sym (view-count w h)))
        pasts (ap (λ (m : ViewRows). m.rows) e) (ap (λ (m : ViewRows). m.lengths) e)
