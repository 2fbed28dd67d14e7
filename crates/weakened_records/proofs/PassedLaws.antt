-- What a record that passed the check is: within its limits, and for sequential the one view is all events, each once. Assumes nothing.
use Prim.Native.Nat.{ℕ, ◌≤◌, ◌<◌}
use native.Mathlib.Omega.{arith}
use mathlib.Core.Path.{◌≡◌, refl, sym, ap, ◌∙◌, subst}
use mathlib.Core.Bool.{Bool, true, false, false≢true}
use mathlib.Core.List.{List, [], map}
use lib.ListN.{length, get_or, take}
use lib.Dec.{ltb}
use lib.Seq.{get_or-take}
use borrow.Author.Tests.{lt-ltb}
use Rattle.history.specs.declared.record.Event.{Event}
use Rattle.history.specs.declared.record.History.{History}
use Rattle.history.specs.Record.{events_in, pad}
use Rattle.history.proofs.Guarantees.{within-sound}
use Rattle.certificate.specs.declared.record.Criterion.{Criterion}
use Rattle.certificate.specs.declared.record.Criterion.TheVariants.{Pram, Weak, Causal, Converge, Sequential, Strict}
use Rattle.certificate.specs.declared.record.Certificate as WrittenCertificate
use Rattle.certificate.specs.Record.{no_list, event_list_of, rows_of}
use Rattle.certificate.specs.Record as TextRecord
use Rattle.certificate.specs.Criteria.{view_numbers}
use Rattle.certificate.proofs.FitsLaws.{Fits, fits-facts}
use Rattle.certificate.proofs.NumberingLaws.{numbers-few}
use Rattle.criteria.specs.Tests.{mem}
use Rattle.criteria.specs.History as lists
use Rattle.criteria.specs.History.{size, IsView, is_event}
use Rattle.criteria.specs.Certificate.{view_count, view_set, order, Readable}
use Rattle.criteria.specs.Records.{history_of, certificate_of}
use Rattle.criteria.proofs.Lists.{mem-of-count, all-length}
use Rattle.criteria.proofs.Check.{Good, check-good}
use Rattle.criteria.proofs.Meeting.{FewProcesses}
use Rattle.criteria.proofs.RecordLaws.{few-processes}
use Rattle.orders.specs.Rows.{ShortList, EventViews}
use Rattle.faults.proofs.CheckLaws.{size_of, few-of, readable_of, short-past, short-views, length-made, event-views, view-same}
use Rattle.weakened.specs.Steps.{lengths_of}
use Rattle.weakened_records.specs.Steps.{Passed}

-- ---- the criteria with one view, of all events
abbrev pub has_one_view : Criterion → Bool
has_one_view Pram = false
has_one_view Weak = false
has_one_view Causal = false
has_one_view Converge = true
has_one_view Sequential = true
has_one_view Strict = false

one_of : (w : Criterion) → has_one_view w ≡ true → (es : List Event) → length (view_numbers w es) ≡ 1
unfolding view_numbers
one_of Pram e es = absurd (false≢true e)
one_of Weak e es = absurd (false≢true e)
one_of Causal e es = absurd (false≢true e)
one_of Converge e es = refl
one_of Sequential e es = refl
one_of Strict e es = absurd (false≢true e)

all_of : (w : Criterion) → has_one_view w ≡ true → (h : lists.History) (R : ℕ → ℕ → Bool) (v : List ℕ)
    → (0 < view_count w h → IsView (view_set w h R 0) v) → IsView (is_event h) v
all_of Pram e h R v f = absurd (false≢true e)
all_of Weak e h R v f = absurd (false≢true e)
all_of Causal e h R v f = absurd (false≢true e)
all_of Converge e h R v f = f (omega arith)
all_of Sequential e h R v f = f (omega arith)
all_of Strict e h R v f = absurd (false≢true e)

-- ---- a record that passed
module _ (h : History) (c : WrittenCertificate.Certificate) (rows : List (List ℕ)) (p : Passed h c rows) where
  pub size-passed : size (history_of h) ≡ h.count
  size-passed = size_of h p.history

  pub few_passed : h.count ≤ 64
  few_passed = few-of h p.history

  pub few-events : length (events_in h) ≤ 64
  few-events = omega (arith, (within-sound h p.history).events, few_passed)

  pub processes-passed : FewProcesses (history_of h)
  processes-passed = few-processes h (within-sound h p.history)

  pub few-numbers : (w : Criterion) → length (view_numbers w (events_in h)) ≤ 64
  few-numbers w = numbers-few w (events_in h) few-events

  pub fits-passed : Fits (events_in h) c rows
  fits-passed = fits-facts (events_in h) c rows few-events p.certificate

  -- the parts of the record are those of its lists
  pub pasts-passed : c.pasts ≡ pad 64 no_list (map event_list_of (certificate_of h c rows).pasts)
  unfolding certificate_of TextRecord.certificate_of
  pasts-passed = ap (λ (x : WrittenCertificate.Certificate). x.pasts) fits-passed.record_is

  pub lengths-passed : c.lengths ≡ lengths_of (certificate_of h c rows).views
  unfolding certificate_of TextRecord.certificate_of lengths_of
  lengths-passed = ap (λ (x : WrittenCertificate.Certificate). x.lengths) fits-passed.record_is

  pub rows-passed : rows ≡ rows_of (certificate_of h c rows).views
  unfolding certificate_of
  rows-passed = fits-passed.rows_are

  pub readable-passed : Readable (history_of h) (certificate_of h c rows)
  readable-passed = readable_of h p.history c rows p.certificate (few-numbers c.criterion)

  pub good-passed : Good (history_of h) (certificate_of h c rows).criterion (order (history_of h) (certificate_of h c rows)) (certificate_of h c rows).views
  good-passed = check-good (history_of h) (certificate_of h c rows) readable-passed p.passes

  pub short-passed : (k : ℕ) → ShortList (get_or c.pasts k no_list)
  short-passed = short-past h p.history c rows p.certificate (few-numbers c.criterion)

  pub views-passed : (m : ℕ) → m ≤ 64 → EventViews rows c.lengths m 64
  views-passed = short-views h p.history c rows p.certificate (few-numbers c.criterion)

  length-passed : (k : ℕ) → get_or c.lengths k 0 ≡ length (get_or (certificate_of h c rows).views k [])
  unfolding certificate_of
  length-passed = length-made h p.history c rows p.certificate (few-numbers c.criterion)

  -- ---- of a criterion with one view: sequential and converge
  module _ (w : Criterion) (is : c.criterion ≡ w) (one : has_one_view w ≡ true) where
    one_number : length (view_numbers c.criterion (events_in h)) ≡ 1
    one_number = ap (λ (k : Criterion). length (view_numbers k (events_in h))) is ∙ one_of w one (events_in h)

    -- the one view is all events
    pub one-view : IsView (λ e. ltb e h.count) (get_or (certificate_of h c rows).views 0 [])
    unfolding certificate_of
    one-view =
        subst (λ (n : ℕ). IsView (λ e. ltb e n) (get_or (certificate_of h c rows).views 0 [])) size-passed
        (all_of w one (history_of h) (order (history_of h) (certificate_of h c rows)) (get_or (certificate_of h c rows).views 0 [])
        (subst (λ (k : Criterion). 0 < view_count k (history_of h) → IsView (view_set k (history_of h) (order (history_of h) (certificate_of h c rows)) 0) (get_or (certificate_of h c rows).views 0 [])) is
        (good-passed.is_view 0)))

    pub one-length : get_or c.lengths 0 0 ≡ h.count
    one-length = length-passed 0 ∙ all-length h.count (get_or (certificate_of h c rows).views 0 []) one-view

    -- it is the beginning of the first row
    pub one-begins : take h.count (get_or rows 0 []) ≡ get_or (certificate_of h c rows).views 0 []
    unfolding certificate_of
    one-begins =
        ap (λ (n : ℕ). take n (get_or rows 0 [])) (sym one-length)
        ∙ view-same h p.history c rows p.certificate (few-numbers c.criterion) 1 (sym one_number) 0 (omega arith)

    -- all events stand in it
    pub one-long : length (take h.count (get_or rows 0 [])) ≡ h.count
    one-long = ap length one-begins ∙ all-length h.count (get_or (certificate_of h c rows).views 0 []) one-view

    pub one_few : length (take h.count (get_or rows 0 [])) ≤ 64
    one_few = omega (arith, one-long, few_passed)

    pub one_entries : (k : ℕ) → k < length (take h.count (get_or rows 0 [])) → get_or (take h.count (get_or rows 0 [])) k 0 < 64
    one_entries k i =
        let l : k < h.count = omega (arith, i, one-long) in
        let e = (event-views h p.history c rows p.certificate (few-numbers c.criterion) 1 (omega arith)).entries 0 (omega arith) k (omega (arith, l, one-length)) in
        rw (get_or-take h.count (get_or rows 0 []) k 0 l) (omega (arith, e, few_passed))

    pub one_holds : (e : ℕ) → e < length (take h.count (get_or rows 0 [])) → mem e (take h.count (get_or rows 0 [])) ≡ true
    unfolding IsView
    one_holds e i =
        let l : e < h.count = omega (arith, i, one-long) in
        rw one-begins (mem-of-count e (get_or (certificate_of h c rows).views 0 []) (ltb e h.count) (one-view e) ∙ lt-ltb e h.count l)
