-- Round trips of a whole text: the text of good pasts and views reads as them, and no other text reads. Assumes nothing.
use Prim.Native.Nat.{ℕ, suc, ◌+◌, ◌≤◌, ◌<◌}
use native.Mathlib.Omega.{arith}
use mathlib.Core.Path.{◌≡◌, refl, sym, ap, ap₂, ◌∙◌}
use mathlib.Core.Bool.{Bool, true, false, cond, not, ◌&&◌, ◌||◌}
use mathlib.Core.List.{List, [], ◌∷◌, ◌++◌, append-nil, append_assoc}
use lib.ListN.{length, get_or, length-append}
use lib.Dec.{leb}
use borrow.Author.Tests.{le-leb, leb-true, eq-eqb, ne_eqb}
use Rattle.layout.specs.Split.{split, join}
use Rattle.layout.specs.Word.{same, past_heading, view_heading}
use Rattle.layout.proofs.Cases.{by_bool, by-eq, and_left, and_right}
use Rattle.layout.proofs.SplitLaws.{without, all_without, join-split}
use Rattle.layout.proofs.WordLaws.{same_true, same_refl}
use Rattle.history.specs.declared.record.Event.{Event}
use Rattle.history.specs.Readable.{all_less}
use Rattle.history_theorems.proofs.TextRound.{split-lines, more}
use Rattle.certificate.proofs.NumberingLaws.{count_long}
use Rattle.certificate.proofs.LineTextLaws.{line-said, line-without}
use Rattle.certificate.specs.declared.record.Criterion.{Criterion}
use Rattle.certificate.specs.Criteria.{has_pasts, count_from, view_numbers, past_count, criterion_of}
use Rattle.certificate.specs.Faults.{rising, criterion_line, list_fault, list_said}
use Rattle.certificate.specs.CertificateText.{list_line, list_lines, criterion_text, view_part, past_part, text_of}
use Rattle.certificate.specs.Readable.{good_lists}
use Rattle.certificate_reader.specs.ReadCertificate.{Lines, accepted, end_from, heading_from, lists_from, views_from, pasts_from, body_from, lines_from, read_lines}
use Rattle.certificate_theorems.proofs.ListRound.{line-fault, line-back, line-good, criterion-without, criterion-line, criterion-said, criterion-back}

-- ---- the lines of a text: every line with its line feed, and nothing behind the last
lists-clean : (ns : List ℕ) (ls ms : List (List ℕ)) → all_without 10 ms ≡ true → all_without 10 (list_lines ns ls ++ ms) ≡ true
unfolding all_without list_lines
lists-clean [] ls ms e = e
lists-clean (n ∷ ns) [] ms e = e
lists-clean (n ∷ ns) (l ∷ ls) ms e = rw (line-without n l) (lists-clean ns ls ms e)

-- the parts of a text after its first line: from the heading of the views on, and from that of the pasts on
abbrev view_parts : List ℕ → List (List ℕ) → List (List ℕ)
view_parts numbers views = view_heading ∷ (list_lines numbers views ++ [] ∷ [])

abbrev past_parts : List ℕ → List (List ℕ) → List (List ℕ) → List (List ℕ)
past_parts numbers pasts views = past_heading ∷ (list_lines (count_from 0 (length pasts)) pasts ++ view_parts numbers views)

abbrev body_parts : Bool → List ℕ → List (List ℕ) → List (List ℕ) → List (List ℕ)
body_parts t numbers pasts views = cond t (past_parts numbers pasts views) (view_parts numbers views)

module _ (numbers : List ℕ) (pasts views : List (List ℕ)) where
  abbrev body : Bool → List (List ℕ)
  body t = cond t (past_part pasts ++ view_part numbers views) (view_part numbers views)

  view-clean : all_without 10 (view_part numbers views) ≡ true
  unfolding view_part all_without without
  view-clean = ap (all_without 10) (sym (append-nil (list_lines numbers views))) ∙ lists-clean numbers views [] refl

  body_clean : (t : Bool) → all_without 10 (body t) ≡ true
  unfolding past_part all_without without
  body_clean true = lists-clean (count_from 0 (length pasts)) pasts (view_part numbers views) view-clean
  body_clean false = view-clean

  body-parts : (t : Bool) → body t ++ [] ∷ [] ≡ body_parts t numbers pasts views
  unfolding past_part view_part
  body-parts true = append_assoc (past_part pasts) (view_part numbers views) ([] ∷ [])
  body-parts false = refl

  text-clean : (c : Criterion) → all_without 10 (criterion_text c ∷ body (has_pasts c)) ≡ true
  unfolding all_without
  text-clean c = rw (criterion-without c) (body_clean (has_pasts c))

  text-parts : (c : Criterion)
      → split 10 (text_of c numbers pasts views) ≡ criterion_text c ∷ body_parts (has_pasts c) numbers pasts views
  unfolding text_of
  text-parts c =
      split-lines (criterion_text c ∷ body (has_pasts c)) (text-clean c)
      ∙ ap (λ (r : List (List ℕ)). criterion_text c ∷ r) (body-parts (has_pasts c))

-- ---- lines without a fault, whatever their places: a heading, and lists
heading-read : (heading : List ℕ) (next : ℕ → ℕ → List (List ℕ) → Lines) (line at : ℕ) (ps : List (List ℕ)) (r : Lines)
    → 0 < length ps → ((k a : ℕ) → next k a ps ≡ r) → heading_from heading next line at (heading ∷ ps) ≡ r
unfolding heading_from
heading-read heading next line at [] r h f = absurd (omega arith)
heading-read heading next line at (p ∷ ps) r h f = rw (same_refl heading) (f (line + 1) (at + length heading + 1))

-- the tests of a good list
abbrev good_list : Bool → ℕ → List ℕ → Bool
good_list past count l = leb (length l) count && all_less count l && (not past || rising l)

module _ (past : Bool) (count : ℕ) (next : List (List ℕ) → ℕ → ℕ → List (List ℕ) → Lines) where
  list-step : (n : ℕ) (ns : List ℕ) (ls : List (List ℕ)) (line at : ℕ) (l : List ℕ) (ps : List (List ℕ)) → 0 < length ps
      → good_list past count l ≡ true
      → lists_from past count next (n ∷ ns) ls line at (list_line n l ∷ ps)
      ≡ lists_from past count next ns (ls ++ l ∷ []) (line + 1) (at + length (list_line n l) + 1) ps
  unfolding lists_from
  list-step n ns ls line at l [] h g = absurd (omega arith)
  list-step n ns ls line at l (p ∷ ps) h g = rw (line-fault past count n l g, line-said n l)

  lists-read : (ns : List ℕ) (ls ms : List (List ℕ)) (line at : ℕ) (rest : List (List ℕ)) (r : Lines) → 0 < length rest
      → length ms ≡ length ns → good_lists past count ms ≡ true → ((k a : ℕ) → next (ls ++ ms) k a rest ≡ r)
      → lists_from past count next ns ls line at (list_lines ns ms ++ rest) ≡ r
  unfolding lists_from list_lines good_lists
  lists-read [] ls [] line at rest r h n g f =
      ap (λ (k : List (List ℕ)). next k line at rest) (sym (append-nil ls)) ∙ f line at
  lists-read [] ls (m ∷ ms) line at rest r h n g f = absurd (omega arith)
  lists-read (o ∷ ns) ls [] line at rest r h n g f = absurd (omega arith)
  lists-read (o ∷ ns) ls (m ∷ ms) line at rest r h n g f =
      list-step o ns ls line at m (list_lines ns ms ++ rest) (omega (arith, length-append (list_lines ns ms) rest))
      (and_left (good_list past count m) (good_lists past count ms) g)
      ∙ lists-read ns (ls ++ m ∷ []) ms (line + 1) (at + length (list_line o m) + 1) rest r h (omega arith)
      (and_right (good_list past count m) (good_lists past count ms) g)
      (λ k a. ap (λ (x : List (List ℕ)). next x k a rest) (append_assoc ls (m ∷ []) ms) ∙ f k a)

-- ---- the text of good pasts and views has no fault, and reads as them
end_read : (r : Lines) (line at : ℕ) → end_from r line at ([] ∷ []) ≡ r
unfolding end_from
end_read r line at = refl

module _ (c : Criterion) (count : ℕ) (numbers : List ℕ) (pasts views : List (List ℕ)) (many : length views ≡ length numbers)
    (good : good_lists false count views ≡ true) where
  views-read : (line at : ℕ) → views_from c count numbers pasts line at (view_parts numbers views) ≡ accepted c pasts views
  unfolding views_from
  views-read line at =
      let next : List (List ℕ) → ℕ → ℕ → List (List ℕ) → Lines = λ vs. end_from (accepted c pasts vs) in
      heading-read view_heading (lists_from false count next numbers []) line at (list_lines numbers views ++ [] ∷ [])
      (accepted c pasts views) (more (list_lines numbers views) [] [])
      (λ k a. lists-read false count next numbers [] views k a ([] ∷ []) (accepted c pasts views) (omega arith) many good
      (end_read (accepted c pasts views)))

  pasts-read : length pasts ≡ count → good_lists true count pasts ≡ true → (line at : ℕ)
      → pasts_from c count numbers line at (past_parts numbers pasts views) ≡ accepted c pasts views
  unfolding pasts_from
  pasts-read n g line at =
      rw n
      (heading-read past_heading (lists_from true count (views_from c count numbers) (count_from 0 count) []) line at
      (list_lines (count_from 0 count) pasts ++ view_parts numbers views) (accepted c pasts views)
      (more (list_lines (count_from 0 count) pasts) view_heading (list_lines numbers views ++ [] ∷ []))
      (λ k a. lists-read true count (views_from c count numbers) (count_from 0 count) [] pasts k a (view_parts numbers views)
      (accepted c pasts views) (omega arith) (omega (arith, count_long 0 count)) g views-read))

none : (ls : List (List ℕ)) → length ls ≡ 0 → ls ≡ []
none [] e = refl
none (l ∷ ls) e = absurd (omega arith)

some-body : (t : Bool) (numbers : List ℕ) (pasts views : List (List ℕ)) → 0 < length (body_parts t numbers pasts views)
some-body true numbers pasts views = omega arith
some-body false numbers pasts views = omega arith

module _ (c : Criterion) (es : List Event) (pasts views : List (List ℕ)) (past-many : length pasts ≡ past_count c es)
    (view-many : length views ≡ length (view_numbers c es)) (past-good : good_lists true (length es) pasts ≡ true)
    (view-good : good_lists false (length es) views ≡ true) where
  abbrev body_of : List (List ℕ)
  body_of = body_parts (has_pasts c) (view_numbers c es) pasts views

  body-read : (line at : ℕ) → body_from c es line at body_of ≡ accepted c pasts views
  unfolding body_from
  body-read line at =
      by_bool (has_pasts c)
      (λ t.
      let n : length pasts ≡ length es = rw t at past-many in
      rw t (pasts-read c (length es) (view_numbers c es) pasts views view-many view-good n past-good line at))
      (λ t.
      let e : pasts ≡ [] = none pasts (rw t at past-many) in
      rw t (views-read c (length es) (view_numbers c es) [] views view-many view-good line at
      ∙ ap (λ (k : List (List ℕ)). accepted c k views) (sym e)))

  lines-read : (ps : List (List ℕ)) → ps ≡ body_of → 0 < length ps → lines_from es (criterion_text c ∷ ps) ≡ accepted c pasts views
  unfolding lines_from
  lines-read [] e h = absurd (omega arith)
  lines-read (p ∷ ps) e h =
      rw (criterion-line c, criterion-said c, e) (body-read 2 (length (criterion_text c) + 1))

-- written and read back
pub text-read : (c : Criterion) (es : List Event) (pasts views : List (List ℕ)) → length pasts ≡ past_count c es
    → length views ≡ length (view_numbers c es) → good_lists true (length es) pasts ≡ true
    → good_lists false (length es) views ≡ true → length (text_of c (view_numbers c es) pasts views) ≤ 32768
    → read_lines es (text_of c (view_numbers c es) pasts views) ≡ accepted c pasts views
unfolding read_lines
text-read c es pasts views past-many view-many past-good view-good short =
    rw (le-leb (length (text_of c (view_numbers c es) pasts views)) 32768 short, text-parts (view_numbers c es) pasts views c)
    (lines-read c es pasts views past-many view-many past-good view-good _ refl
    (some-body (has_pasts c) (view_numbers c es) pasts views))

-- ---- parts without a fault are a heading and more, those of good lists and more, and the end
record HeadingRead (heading : List ℕ) (next : ℕ → ℕ → List (List ℕ) → Lines) (ps : List (List ℕ)) : Type 0 where
  rest : List (List ℕ)
  line : ℕ
  at : ℕ
  says : ps ≡ heading ∷ rest
  after : (next line at rest).fault ≡ 0

parts-heading : (heading : List ℕ) (next : ℕ → ℕ → List (List ℕ) → Lines) (line at : ℕ) (ps : List (List ℕ))
    → (heading_from heading next line at ps).fault ≡ 0 → HeadingRead heading next ps
unfolding heading_from
parts-heading heading next line at [] z = absurd (omega arith)
parts-heading heading next line at (p ∷ []) z = absurd (omega arith)
parts-heading heading next line at (p ∷ q ∷ ps) z =
    by_bool (same p heading)
    (λ s.
    record {
      rest = q ∷ ps;
      line = line + 1;
      at = at + length p + 1;
      says = ap (λ (h : List ℕ). h ∷ q ∷ ps) (same_true p heading s);
      after = rw s at z;
    })
    (λ s. let b : ◌≡◌ {A = ℕ} 2 0 = rw s at z in absurd (omega arith))

module _ (past : Bool) (count : ℕ) (next : List (List ℕ) → ℕ → ℕ → List (List ℕ) → Lines) where
  record ListsRead (ns : List ℕ) (ls ps : List (List ℕ)) : Type 0 where
    lists : List (List ℕ)
    rest : List (List ℕ)
    line : ℕ
    at : ℕ
    many : length lists ≡ length ns
    good : good_lists past count lists ≡ true
    says : ps ≡ list_lines ns lists ++ rest
    after : (next (ls ++ lists) line at rest).fault ≡ 0

  parts-lists : (ns : List ℕ) (ls : List (List ℕ)) (line at : ℕ) (ps : List (List ℕ))
      → (lists_from past count next ns ls line at ps).fault ≡ 0 → ListsRead ns ls ps
  unfolding lists_from list_lines good_lists
  parts-lists [] ls line at ps z =
      record {
        lists = [];
        rest = ps;
        line = line;
        at = at;
        many = refl;
        good = refl;
        says = refl;
        after = ap (λ (k : List (List ℕ)). (next k line at ps).fault) (append-nil ls) ∙ z;
      }
  parts-lists (n ∷ ns) ls line at [] z = absurd (omega arith)
  parts-lists (n ∷ ns) ls line at (p ∷ []) z = absurd (omega arith)
  parts-lists (n ∷ ns) ls line at (p ∷ q ∷ ps) z =
      by-eq (list_fault past count n p) 0
      (λ f.
      let l : List ℕ = list_said p in
      let ih = parts-lists ns (ls ++ l ∷ []) (line + 1) (at + length p + 1) (q ∷ ps)
      (rw (eq-eqb (list_fault past count n p) 0 f) at z) in
      let a : (ls ++ l ∷ []) ++ ih.lists ≡ ls ++ l ∷ ih.lists = append_assoc ls (l ∷ []) ih.lists in
      record {
        lists = l ∷ ih.lists;
        rest = ih.rest;
        line = ih.line;
        at = ih.at;
        many = ap suc ih.many;
        good = rw (line-good past count n p f) ih.good;
        says = ap₂ {C = List (List ℕ)} ◌∷◌ (sym (line-back past count n p f)) ih.says;
        after = ap (λ (k : List (List ℕ)). (next k ih.line ih.at ih.rest).fault) (sym a) ∙ ih.after;
      })
      (λ f. absurd (f (rw (ne_eqb (list_fault past count n p) 0 f) at z)))

parts-end : (r : Lines) (line at : ℕ) (ps : List (List ℕ)) → (end_from r line at ps).fault ≡ 0 → ps ≡ [] ∷ []
unfolding end_from
parts-end r line at [] z = absurd (omega arith)
parts-end r line at ([] ∷ []) z = refl
parts-end r line at ((x ∷ p) ∷ []) z =
    let n : length (x ∷ p) ≡ 0 → ⊥ = λ q. omega arith in
    let b : ◌≡◌ {A = ℕ} 2 0 = rw (ne_eqb (length (x ∷ p)) 0 n) at z in
    absurd (omega arith)
parts-end r line at (p ∷ q ∷ ps) z = absurd (omega arith)

-- ---- parts without a fault are those of good views, and of good pasts and views
record ViewsRead (count : ℕ) (numbers : List ℕ) (ps : List (List ℕ)) : Type 0 where
  views : List (List ℕ)
  many : length views ≡ length numbers
  good : good_lists false count views ≡ true
  says : ps ≡ view_parts numbers views

parts-views : (c : Criterion) (count : ℕ) (numbers : List ℕ) (pasts : List (List ℕ)) (line at : ℕ) (ps : List (List ℕ))
    → (views_from c count numbers pasts line at ps).fault ≡ 0 → ViewsRead count numbers ps
unfolding views_from
parts-views c count numbers pasts line at ps z =
    let next : List (List ℕ) → ℕ → ℕ → List (List ℕ) → Lines = λ vs. end_from (accepted c pasts vs) in
    let h = parts-heading view_heading (lists_from false count next numbers []) line at ps z in
    let l = parts-lists false count next numbers [] h.line h.at h.rest h.after in
    let e : l.rest ≡ [] ∷ [] = parts-end (accepted c pasts l.lists) l.line l.at l.rest l.after in
    let s : h.rest ≡ list_lines numbers l.lists ++ [] ∷ [] =
    l.says ∙ ap (λ (k : List (List ℕ)). list_lines numbers l.lists ++ k) e in
    record {
      views = l.lists;
      many = l.many;
      good = l.good;
      says = h.says ∙ ap (λ (k : List (List ℕ)). view_heading ∷ k) s;
    }

record BodyRead (t : Bool) (count : ℕ) (numbers : List ℕ) (ps : List (List ℕ)) : Type 0 where
  pasts : List (List ℕ)
  views : List (List ℕ)
  past-many : length pasts ≡ cond t count 0
  view-many : length views ≡ length numbers
  past-good : good_lists true count pasts ≡ true
  view-good : good_lists false count views ≡ true
  says : ps ≡ body_parts t numbers pasts views

parts-pasts : (c : Criterion) (count : ℕ) (numbers : List ℕ) (line at : ℕ) (ps : List (List ℕ))
    → (pasts_from c count numbers line at ps).fault ≡ 0 → BodyRead true count numbers ps
unfolding pasts_from
parts-pasts c count numbers line at ps z =
    let next : List (List ℕ) → ℕ → ℕ → List (List ℕ) → Lines = views_from c count numbers in
    let h = parts-heading past_heading (lists_from true count next (count_from 0 count) []) line at ps z in
    let l = parts-lists true count next (count_from 0 count) [] h.line h.at h.rest h.after in
    let v = parts-views c count numbers l.lists l.line l.at l.rest l.after in
    let n : length l.lists ≡ count = l.many ∙ count_long 0 count in
    let s : h.rest ≡ list_lines (count_from 0 (length l.lists)) l.lists ++ view_parts numbers v.views =
    l.says
    ∙ ap₂ {C = List (List ℕ)} (λ (k : ℕ) (r : List (List ℕ)). list_lines (count_from 0 k) l.lists ++ r) (sym n) v.says in
    record {
      pasts = l.lists;
      views = v.views;
      past-many = n;
      view-many = v.many;
      past-good = l.good;
      view-good = v.good;
      says = h.says ∙ ap (λ (k : List (List ℕ)). past_heading ∷ k) s;
    }

only-views : {count : ℕ} {numbers : List ℕ} {ps : List (List ℕ)} → ViewsRead count numbers ps → BodyRead false count numbers ps
unfolding good_lists
only-views v =
    record {
      pasts = [];
      views = v.views;
      past-many = refl;
      view-many = v.many;
      past-good = refl;
      view-good = v.good;
      says = v.says;
    }

parts-body : (c : Criterion) (es : List Event) (line at : ℕ) (ps : List (List ℕ)) → (body_from c es line at ps).fault ≡ 0
    → BodyRead (has_pasts c) (length es) (view_numbers c es) ps
unfolding body_from
parts-body c es line at ps z =
    by_bool (has_pasts c)
    (λ t. rw t (parts-pasts c (length es) (view_numbers c es) line at ps (rw t at z)))
    (λ t. rw t (only-views (parts-views c (length es) (view_numbers c es) [] line at ps (rw t at z))))

record LinesRead (es : List Event) (ps : List (List ℕ)) : Type 0 where
  criterion : Criterion
  rest : List (List ℕ)
  body : BodyRead (has_pasts criterion) (length es) (view_numbers criterion es) rest
  says : ps ≡ criterion_text criterion ∷ rest

parts-lines : (es : List Event) (ps : List (List ℕ)) → (lines_from es ps).fault ≡ 0 → LinesRead es ps
unfolding lines_from
parts-lines es [] z = absurd (omega arith)
parts-lines es (p ∷ []) z = absurd (omega arith)
parts-lines es (p ∷ q ∷ ps) z =
    by_bool (criterion_line p)
    (λ t.
    let c : Criterion = criterion_of (get_or (split 32 p) 1 []) in
    record {
      criterion = c;
      rest = q ∷ ps;
      body = parts-body c es 2 (length p + 1) (q ∷ ps) (rw t at z);
      says = ap (λ (k : List ℕ). k ∷ q ∷ ps) (sym (criterion-back p t));
    })
    (λ t. let b : ◌≡◌ {A = ℕ} 2 0 = rw t at z in absurd (omega arith))

-- ---- a text without a fault is the text of good pasts and views
pub record Reads (es : List Event) (text : List ℕ) : Type 0 where
  pub criterion : Criterion
  pub pasts : List (List ℕ)
  pub views : List (List ℕ)
  pub reads : read_lines es text ≡ accepted criterion pasts views
  pub past-count : length pasts ≡ past_count criterion es
  pub view-count : length views ≡ length (view_numbers criterion es)
  pub good-pasts : good_lists true (length es) pasts ≡ true
  pub good-views : good_lists false (length es) views ≡ true
  pub says : text_of criterion (view_numbers criterion es) pasts views ≡ text
  pub short : length text ≤ 32768

text-reads : (es : List Event) (text : List ℕ) → length text ≤ 32768 → LinesRead es (split 10 text) → Reads es text
text-reads es text s l =
    let c : Criterion = l.criterion in
    let b = l.body in
    let w : List ℕ = text_of c (view_numbers c es) b.pasts b.views in
    let parts : split 10 w ≡ split 10 text =
    text-parts (view_numbers c es) b.pasts b.views c
    ∙ ap (λ (k : List (List ℕ)). criterion_text c ∷ k) (sym b.says) ∙ sym l.says in
    let e : w ≡ text = sym (join-split 10 w) ∙ ap (join 10) parts ∙ join-split 10 text in
    let n : length w ≤ 32768 = omega (arith, s, ap length e) in
    record {
      criterion = c;
      pasts = b.pasts;
      views = b.views;
      reads = ap (read_lines es) (sym e)
          ∙ text-read c es b.pasts b.views b.past-many b.view-many b.past-good b.view-good n;
      past-count = b.past-many;
      view-count = b.view-many;
      good-pasts = b.past-good;
      good-views = b.view-good;
      says = e;
      short = s;
    }

pub read-text : (es : List Event) (text : List ℕ) → (read_lines es text).fault ≡ 0 → Reads es text
unfolding read_lines
read-text es text z =
    by_bool (leb (length text) 32768)
    (λ t. text-reads es text (leb-true (length text) 32768 t) (parts-lines es (split 10 text) (rw t at z)))
    (λ t. let b : ◌≡◌ {A = ℕ} 1 0 = rw t at z in absurd (omega arith))
