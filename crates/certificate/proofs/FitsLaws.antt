-- Laws of a certificate record within the limits that a history's events set: it is the record of its pasts and views, and its
-- rows are the rows of its views. Assumes nothing.
use Prim.Native.Nat.{ℕ, zero, suc, ◌+◌, ◌-◌, ◌≤◌}
use native.Mathlib.Omega.{arith}
use mathlib.Core.Path.{◌≡◌, refl, sym, ap, ap₂, ◌∙◌}
use mathlib.Core.Bool.{Bool, true, false, not, ◌&&◌, ◌||◌, false≢true}
use mathlib.Core.List.{List, [], ◌∷◌, map}
use lib.ListN.{length, take, drop, replicate, length-map}
use lib.Seq.{length-take-le}
use lib.Dec.{eqb, leb}
use borrow.Author.Tests.{eqb-true, leb-true, le-leb, lt-ltb}
use Rattle.layout.proofs.Cases.{by_bool, and_left, and_right}
use Rattle.history.specs.declared.record.Event.{Event}
use Rattle.history.specs.Record.{pad}
use Rattle.history.specs.Readable.{all_less, all_zero}
use Rattle.history.proofs.PadLaws.{pad-length, take-pad}
use Rattle.history.proofs.WithinLaws.{zero_is, zeros, padded, drop-pad}
use Rattle.certificate.proofs.NumberingLaws.{numbers-few}
use Rattle.certificate.specs.declared.record.Criterion.{Criterion}
use Rattle.certificate.specs.declared.record.Criterion.TheVariants.{Pram, Weak, Causal, Converge, Sequential, Strict}
use Rattle.certificate.specs.declared.record.EventList.{EventList}
use Rattle.certificate.specs.declared.record.Certificate.{Certificate}
use Rattle.certificate.specs.Record.{no_list, no_row, event_list_of, row_of, certificate_of, rows_of, entries_in, pasts_in, beginnings, views_in}
use Rattle.certificate.specs.Criteria.{count_from, has_events, processes_from, view_numbers, past_count}
use Rattle.certificate.specs.Faults.{rising}
use Rattle.certificate.specs.Readable.{good_lists, good_row, good_pasts, blank_lists, good_rows, blank_rows, fits}

-- ---- the numbers of the views: at most 64, each below 64
pub count-below : (bound k n : ℕ) → k + n ≤ bound → all_less bound (count_from k n) ≡ true
unfolding count_from all_less
count-below bound k zero h = refl
count-below bound k (suc n) h = rw (lt-ltb k bound (omega arith)) (count-below bound (k + 1) n (omega arith))

processes-below : (bound : ℕ) (es : List Event) (p n : ℕ) → p + n ≤ bound → all_less bound (processes_from es p n) ≡ true
unfolding processes_from all_less
processes-below bound es p zero h = refl
processes-below bound es p (suc n) h =
    let ih = processes-below bound es (p + 1) n (omega arith) in
    by_bool (has_events p es) (λ t. rw (t, lt-ltb p bound (omega arith)) ih) (λ t. rw t ih)

one_below : all_less 64 (0 ∷ []) ≡ true
unfolding all_less
one_below = refl

pub numbers-below : (c : Criterion) (es : List Event) → length es ≤ 64 → all_less 64 (view_numbers c es) ≡ true
unfolding view_numbers
numbers-below Pram es h = processes-below 64 es 0 8 (omega arith)
numbers-below Weak es h = count-below 64 0 (length es) (omega arith)
numbers-below Causal es h = count-below 64 0 (length es) (omega arith)
numbers-below Converge es h = one_below
numbers-below Sequential es h = one_below
numbers-below Strict es h = processes-below 64 es 0 8 (omega arith)

-- there are at most 64 pasts
pub pasts-few : (c : Criterion) (es : List Event) → length es ≤ 64 → past_count c es ≤ 64
pasts-few Pram es h = omega arith
pasts-few Weak es h = h
pasts-few Causal es h = h
pasts-few Converge es h = h
pasts-few Sequential es h = omega arith
pasts-few Strict es h = h

-- ---- what is not used is blank
row-blank : (row : List ℕ) → length row ≡ 64 → all_zero row ≡ true → row ≡ no_row
row-blank row l e = zero_is row e ∙ ap (λ (k : ℕ). replicate k 0) l

list-parts : (n : ℕ) (row : List ℕ) → n ≡ 0 → row ≡ no_row → ◌≡◌ {A = EventList} (record { count = n; events = row }) no_list
list-parts n row h k = rw (h, k)

lists-blank : (ls : List EventList) → blank_lists ls ≡ true → ls ≡ replicate (length ls) no_list
unfolding blank_lists
lists-blank [] e = refl
lists-blank (l ∷ ls) e =
    let b₂ : Bool = eqb l.count 0 && eqb (length l.events) 64 in
    let b₃ : Bool = b₂ && all_zero l.events in
    let e₃ = and_left b₃ (blank_lists ls) e in
    let e₂ = and_left b₂ (all_zero l.events) e₃ in
    ap₂ {C = List EventList} ◌∷◌
    (list-parts l.count l.events
    (eqb-true l.count 0 (and_left (eqb l.count 0) (eqb (length l.events) 64) e₂))
    (row-blank l.events
    (eqb-true (length l.events) 64 (and_right (eqb l.count 0) (eqb (length l.events) 64) e₂))
    (and_right b₂ (all_zero l.events) e₃)))
    (lists-blank ls (and_right b₃ (blank_lists ls) e))

rows-blank : (rows : List (List ℕ)) → blank_rows rows ≡ true → rows ≡ replicate (length rows) no_row
unfolding blank_rows
rows-blank [] e = refl
rows-blank (row ∷ rows) e =
    let b₂ : Bool = eqb (length row) 64 && all_zero row in
    let e₂ = and_left b₂ (blank_rows rows) e in
    ap₂ {C = List (List ℕ)} ◌∷◌
    (row-blank row (eqb-true (length row) 64 (and_left (eqb (length row) 64) (all_zero row) e₂))
    (and_right (eqb (length row) 64) (all_zero row) e₂))
    (rows-blank rows (and_right b₂ (blank_rows rows) e))

blank-lists : (n : ℕ) → blank_lists (replicate n no_list) ≡ true
unfolding blank_lists all_zero
blank-lists zero = refl
blank-lists (suc n) = blank-lists n

blank-rows : (n : ℕ) → blank_rows (replicate n no_row) ≡ true
unfolding blank_rows all_zero
blank-rows zero = refl
blank-rows (suc n) = blank-rows n

-- ---- an array whose places from n on are blank is its first n elements in an array
module _ {A : Type 0} (places : ℕ) (blank : A) where
  -- the elements are made from a list's
  module _ {B : Type 0} (f : B → A) (xs : List B) where
    made-take : take (length xs) (pad places blank (map f xs)) ≡ map f xs
    made-take =
        ap (λ (k : ℕ). take k (pad places blank (map f xs))) (sym (length-map xs f)) ∙ take-pad places blank (map f xs)

    made-drop : drop (length xs) (pad places blank (map f xs)) ≡ replicate (places - length xs) blank
    made-drop =
        ap (λ (k : ℕ). drop k (pad places blank (map f xs))) (sym (length-map xs f))
        ∙ drop-pad places blank (map f xs)
        ∙ ap (λ (k : ℕ). replicate (places - k) blank) (length-map xs f)

    made-length : length xs ≤ places → length (pad places blank (map f xs)) ≡ places
    made-length h = pad-length places blank (map f xs) (omega (arith, length-map xs f))

    made-is : (ys : List A) (n : ℕ) → length ys ≡ places → n ≤ places → drop n ys ≡ replicate (length (drop n ys)) blank
        → take n ys ≡ map f xs → ys ≡ pad places blank (map f xs)
    made-is ys n l h d e = padded places blank ys n l h d ∙ ap (pad places blank) e

-- ---- the pasts and the views of the record that is made of them
pub entries-made : (ls : List (List ℕ)) → map entries_in (map event_list_of ls) ≡ ls
unfolding event_list_of
entries-made [] = refl
entries-made (l ∷ ls) = ap₂ {C = List (List ℕ)} ◌∷◌ (take-pad 64 0 l) (entries-made ls)

beginnings-made : (ls : List (List ℕ)) → beginnings (map length ls) (map row_of ls) ≡ ls
unfolding beginnings row_of
beginnings-made [] = refl
beginnings-made (l ∷ ls) = ap₂ {C = List (List ℕ)} ◌∷◌ (take-pad 64 0 l) (beginnings-made ls)

pub pasts-in : (c : Criterion) (pasts views : List (List ℕ)) → pasts_in (length pasts) (certificate_of c pasts views) ≡ pasts
unfolding certificate_of
pasts-in c pasts views = ap (map entries_in) (made-take 64 no_list event_list_of pasts) ∙ entries-made pasts

pub views-in : (c : Criterion) (pasts views : List (List ℕ)) → views_in (length views) (certificate_of c pasts views) (rows_of views) ≡ views
unfolding certificate_of rows_of
views-in c pasts views =
    ap₂ beginnings (made-take 64 0 length views) (made-take 64 no_row row_of views) ∙ beginnings-made views

-- ---- a row, within its limits
record Row (count n : ℕ) (row : List ℕ) : Type 0 where
  at_most : n ≤ count
  less : all_less count (take n row) ≡ true
  said : length (take n row) ≡ n
  blank : row ≡ pad 64 0 (take n row)

row-facts : (count n : ℕ) (row : List ℕ) → count ≤ 64 → good_row count n row ≡ true → Row count n row
unfolding good_row
row-facts count n row h e =
    let b₂ : Bool = leb n count && all_less count (take n row) in
    let b₃ : Bool = b₂ && eqb (length row) 64 in
    let e₃ = and_left b₃ (all_zero (drop n row)) e in
    let e₂ = and_left b₂ (eqb (length row) 64) e₃ in
    let m : n ≤ count = leb-true n count (and_left (leb n count) (all_less count (take n row)) e₂) in
    let l : length row ≡ 64 = eqb-true (length row) 64 (and_right b₂ (eqb (length row) 64) e₃) in
    record {
      at_most = m;
      less = and_right (leb n count) (all_less count (take n row)) e₂;
      said = length-take-le n row (omega arith);
      blank = padded 64 0 row n l (omega arith) (zero_is (drop n row) (and_right b₃ (all_zero (drop n row)) e));
    }

row-good : (count : ℕ) (l : List ℕ) → count ≤ 64 → length l ≤ count → all_less count l ≡ true
    → good_row count (length l) (pad 64 0 l) ≡ true
unfolding good_row
row-good count l h k e =
    rw (
      le-leb (length l) count k,
      take-pad 64 0 l,
      e,
      pad-length 64 0 l (omega arith),
      drop-pad 64 0 l,
    )
    (zeros (64 - length l))

-- ---- lists of events: the first, and the others
module _ (past : Bool) (count : ℕ) (l : List ℕ) (ls : List (List ℕ)) where
  lists-good : length l ≤ count → all_less count l ≡ true → not past || rising l ≡ true → good_lists past count ls ≡ true
      → good_lists past count (l ∷ ls) ≡ true
  unfolding good_lists
  lists-good h e r g = rw (le-leb (length l) count h, e, r) g

  module _ (e : good_lists past count (l ∷ ls) ≡ true) where
    first_good : leb (length l) count && all_less count l && (not past || rising l) ≡ true
    unfolding good_lists
    first_good = and_left (leb (length l) count && all_less count l && (not past || rising l)) (good_lists past count ls) e

    first-rises : not past || rising l ≡ true
    first-rises = and_right (leb (length l) count && all_less count l) (not past || rising l) first_good

    first-both : leb (length l) count && all_less count l ≡ true
    first-both = and_left (leb (length l) count && all_less count l) (not past || rising l) first_good

    first-few : length l ≤ count
    first-few = leb-true (length l) count (and_left (leb (length l) count) (all_less count l) first-both)

    first-less : all_less count l ≡ true
    first-less = and_right (leb (length l) count) (all_less count l) first-both

    others-good : good_lists past count ls ≡ true
    unfolding good_lists
    others-good = and_right (leb (length l) count && all_less count l && (not past || rising l)) (good_lists past count ls) e

lists-none : (past : Bool) (count : ℕ) → good_lists past count [] ≡ true
unfolding good_lists
lists-none past count = refl

-- ---- pasts, within their limits
record Pasts (count : ℕ) (ls : List EventList) : Type 0 where
  good : good_lists true count (map entries_in ls) ≡ true
  made : ls ≡ map event_list_of (map entries_in ls)

list-made : (n : ℕ) (row : List ℕ) → length (take n row) ≡ n → row ≡ pad 64 0 (take n row)
    → ◌≡◌ {A = EventList} (record { count = n; events = row }) (event_list_of (take n row))
unfolding event_list_of
list-made n row h k = ap₂ {C = EventList} (λ (m : ℕ) (r : List ℕ). record { count = m; events = r }) (sym h) k

pasts-facts : (count : ℕ) (ls : List EventList) → count ≤ 64 → good_pasts count ls ≡ true → Pasts count ls
unfolding good_pasts
pasts-facts count [] h e = record { good = lists-none true count; made = refl }
pasts-facts count (l ∷ ls) h e =
    let b₂ : Bool = good_row count l.count l.events && rising (entries_in l) in
    let e₂ = and_left b₂ (good_pasts count ls) e in
    let r = row-facts count l.count l.events h (and_left (good_row count l.count l.events) (rising (entries_in l)) e₂) in
    let ih = pasts-facts count ls h (and_right b₂ (good_pasts count ls) e) in
    record {
      good =
          lists-good true count (entries_in l) (map entries_in ls) (omega (arith, r.said, r.at_most)) r.less
          (and_right (good_row count l.count l.events) (rising (entries_in l)) e₂)
          ih.good;
      made = ap₂ {C = List EventList} ◌∷◌ (list-made l.count l.events r.said r.blank) ih.made;
    }

pasts-good : (count : ℕ) (ls : List (List ℕ)) → count ≤ 64 → good_lists true count ls ≡ true
    → good_pasts count (map event_list_of ls) ≡ true
unfolding good_pasts event_list_of
pasts-good count [] h e = refl
pasts-good count (l ∷ ls) h e =
    rw (
      row-good count l h (first-few true count l ls e) (first-less true count l ls e),
      take-pad 64 0 l,
      first-rises true count l ls e,
    )
    (pasts-good count ls h (others-good true count l ls e))

-- ---- views, within their limits
record Views (count : ℕ) (ns : List ℕ) (rows : List (List ℕ)) : Type 0 where
  good : good_lists false count (beginnings ns rows) ≡ true
  lengths : ns ≡ map length (beginnings ns rows)
  made : rows ≡ map row_of (beginnings ns rows)

views-more : (count n : ℕ) (ns : List ℕ) (row : List ℕ) (rows : List (List ℕ))
    → Row count n row → Views count ns rows → Views count (n ∷ ns) (row ∷ rows)
unfolding beginnings row_of
views-more count n ns row rows r v =
    record {
      good =
          lists-good false count (take n row) (beginnings ns rows) (omega (arith, r.said, r.at_most)) r.less refl v.good;
      lengths = ap₂ {C = List ℕ} ◌∷◌ (sym r.said) v.lengths;
      made = ap₂ {C = List (List ℕ)} ◌∷◌ r.blank v.made;
    }

views-facts : (count : ℕ) (ns : List ℕ) (rows : List (List ℕ)) → count ≤ 64 → good_rows count ns rows ≡ true → Views count ns rows
unfolding good_rows beginnings
views-facts count [] [] h e =
    record { good = lists-none false count; lengths = refl; made = refl }
views-facts count [] (row ∷ rows) h e = absurd (false≢true e)
views-facts count (n ∷ ns) [] h e = absurd (false≢true e)
views-facts count (n ∷ ns) (row ∷ rows) h e =
    views-more count n ns row rows
    (row-facts count n row h (and_left (good_row count n row) (good_rows count ns rows) e))
    (views-facts count ns rows h (and_right (good_row count n row) (good_rows count ns rows) e))

views-good : (count : ℕ) (ls : List (List ℕ)) → count ≤ 64 → good_lists false count ls ≡ true
    → good_rows count (map length ls) (map row_of ls) ≡ true
unfolding good_rows row_of
views-good count [] h e = refl
views-good count (l ∷ ls) h e =
    rw (row-good count l h (first-few false count l ls e) (first-less false count l ls e))
    (views-good count ls h (others-good false count l ls e))

-- ---- what the limits say
pub record Fits (es : List Event) (c : Certificate) (rows : List (List ℕ)) : Type 0 where
  pub past-count : length (pasts_in (past_count c.criterion es) c) ≡ past_count c.criterion es
  pub view-count : length (views_in (length (view_numbers c.criterion es)) c rows) ≡ length (view_numbers c.criterion es)
  pub good-pasts : good_lists true (length es) (pasts_in (past_count c.criterion es) c) ≡ true
  pub good-views : good_lists false (length es) (views_in (length (view_numbers c.criterion es)) c rows) ≡ true
  pub record_is : c ≡ certificate_of c.criterion (pasts_in (past_count c.criterion es) c) (views_in (length (view_numbers c.criterion es)) c rows)
  pub rows_are : rows ≡ rows_of (views_in (length (view_numbers c.criterion es)) c rows)

certificate-parts : (c : Criterion) (ps : List EventList) (ns : List ℕ) (pasts views : List (List ℕ))
    → ps ≡ pad 64 no_list (map event_list_of pasts) → ns ≡ pad 64 0 (map length views)
    → ◌≡◌ {A = Certificate} (record { criterion = c; pasts = ps; lengths = ns }) (certificate_of c pasts views)
unfolding certificate_of
certificate-parts c ps ns pasts views h k = rw (h, k)

rows-parts : (rows views : List (List ℕ)) → rows ≡ pad 64 no_row (map row_of views) → rows ≡ rows_of views
unfolding rows_of
rows-parts rows views h = h

pub fits-facts : (es : List Event) (c : Certificate) (rows : List (List ℕ)) → length es ≤ 64 → fits es c rows ≡ true → Fits es c rows
unfolding fits
fits-facts es c rows h e =
    let n : ℕ = length es in
    let k : ℕ = past_count c.criterion es in
    let m : ℕ = length (view_numbers c.criterion es) in
    let ps : List EventList = c.pasts in
    let ns : List ℕ = c.lengths in
    let b₂ : Bool = eqb (length ps) 64 && eqb (length ns) 64 in
    let b₃ : Bool = b₂ && eqb (length rows) 64 in
    let b₄ : Bool = b₃ && good_pasts n (take k ps) in
    let b₅ : Bool = b₄ && good_rows n (take m ns) (take m rows) in
    let b₆ : Bool = b₅ && blank_lists (drop k ps) in
    let b₇ : Bool = b₆ && all_zero (drop m ns) in
    let e₇ = and_left b₇ (blank_rows (drop m rows)) e in
    let e₆ = and_left b₆ (all_zero (drop m ns)) e₇ in
    let e₅ = and_left b₅ (blank_lists (drop k ps)) e₆ in
    let e₄ = and_left b₄ (good_rows n (take m ns) (take m rows)) e₅ in
    let e₃ = and_left b₃ (good_pasts n (take k ps)) e₄ in
    let e₂ = and_left b₂ (eqb (length rows) 64) e₃ in
    let lp : length ps ≡ 64 = eqb-true (length ps) 64 (and_left (eqb (length ps) 64) (eqb (length ns) 64) e₂) in
    let ln : length ns ≡ 64 = eqb-true (length ns) 64 (and_right (eqb (length ps) 64) (eqb (length ns) 64) e₂) in
    let lr : length rows ≡ 64 = eqb-true (length rows) 64 (and_right b₂ (eqb (length rows) 64) e₃) in
    let hk : k ≤ 64 = pasts-few c.criterion es h in
    let hm : m ≤ 64 = numbers-few c.criterion es h in
    let p = pasts-facts n (take k ps) h (and_right b₃ (good_pasts n (take k ps)) e₄) in
    let v = views-facts n (take m ns) (take m rows) h (and_right b₄ (good_rows n (take m ns) (take m rows)) e₅) in
    let lm : length (take m ns) ≡ m = length-take-le m ns (omega arith) in
    record {
      past-count = length-map (take k ps) entries_in ∙ length-take-le k ps (omega arith);
      view-count = sym (ap length v.lengths ∙ length-map (views_in m c rows) length) ∙ lm;
      good-pasts = p.good;
      good-views = v.good;
      record_is =
          certificate-parts c.criterion ps ns (pasts_in k c) (views_in m c rows)
          (made-is 64 no_list event_list_of (pasts_in k c) ps k lp hk
          (lists-blank (drop k ps) (and_right b₅ (blank_lists (drop k ps)) e₆))
          p.made)
          (made-is 64 0 length (views_in m c rows) ns m ln hm
          (zero_is (drop m ns) (and_right b₆ (all_zero (drop m ns)) e₇))
          v.lengths);
      rows_are =
          rows-parts rows (views_in m c rows)
          (made-is 64 no_row row_of (views_in m c rows) rows m lr hm
          (rows-blank (drop m rows) (and_right b₇ (blank_rows (drop m rows)) e))
          v.made);
    }

-- good pasts and views, so many as the criterion has, are a record and rows within the limits
pub facts-fit : (c : Criterion) (es : List Event) (pasts views : List (List ℕ)) → length es ≤ 64
    → length pasts ≡ past_count c es → length views ≡ length (view_numbers c es)
    → good_lists true (length es) pasts ≡ true → good_lists false (length es) views ≡ true
    → fits es (certificate_of c pasts views) (rows_of views) ≡ true
unfolding fits certificate_of rows_of
facts-fit c es pasts views h p q g f =
    rw (
      ← p,
      ← q,
      made-length 64 no_list event_list_of pasts (omega (arith, pasts-few c es h)),
      made-length 64 0 length views (omega (arith, numbers-few c es h)),
      made-length 64 no_row row_of views (omega (arith, numbers-few c es h)),
      made-take 64 no_list event_list_of pasts,
      made-take 64 0 length views,
      made-take 64 no_row row_of views,
      made-drop 64 no_list event_list_of pasts,
      made-drop 64 0 length views,
      made-drop 64 no_row row_of views,
      pasts-good (length es) pasts h g,
      views-good (length es) views h f,
      blank-lists (64 - length pasts),
      zeros (64 - length views),
    )
    (blank-rows (64 - length views))
