-- Laws of the lists that are kept while the lines of pasts and of views are read. Assumes nothing.
use Prim.Native.Nat.{ℕ, zero, suc, ◌+◌, ◌-◌, ◌≤◌, ◌<◌}
use native.Mathlib.Numerals.{add-one}
use native.Mathlib.Omega.{arith}
use mathlib.Core.Path.{◌≡◌, refl, sym, ap, ap₂, subst, ◌∙◌}
use mathlib.Core.Bool.{Bool, true, false, ◌&&◌}
use mathlib.Core.List.{List, [], ◌∷◌, ◌++◌, map, map-append}
use lib.ListN.{length, get_or, take, drop, set, replicate, length-map, length-append, drop_of_length-le, get_or-eq_default}
use Rattle.std.proofs.Common.{get_or-set_other, get_or-set_same}
use Rattle.std.proofs.lemmas.List.{take_more_set}
use lib.Seq.{take-length, length-take-le}
use lib.Dec.{eqb, leb}
use borrow.Author.Tests.{eq-eqb, ne_eqb, leb-true}
use Rattle.std.specs.Prelude.{Result, Ok, Err}
use Rattle.layout.specs.Split.{find, split}
use Rattle.layout.specs.Word.{past_heading, view_heading}
use Rattle.layout.specs.Number.{value}
use Rattle.layout.specs.List.{items_of, all_below, numbers_of}
use Rattle.layout.proofs.Cases.{by_bool, by-lt, by-eq, and_right}
use Rattle.layout.proofs.SplitLaws.{find-le, split-more, split-last}
use Rattle.layout.proofs.LeadingLaws.{at-cons}
use Rattle.history.specs.Record.{pad}
use Rattle.history.specs.declared.fault.Fault.{Fault}
use Rattle.history.specs.Faults.{fault_number}
use Rattle.history.proofs.NextLaws.{next-cut, next-line}
use Rattle.history.proofs.PadLaws.{pad-set, pad-length, get_or-pad, take_more}
use Rattle.history.specs.declared.record.Event.{Event}
use Rattle.history_reader.specs.declared.read.Refusal.{Refusal}
use Rattle.history_reader.proofs.ReadLaws.{fault-some}
use Rattle.certificate.specs.declared.record.Criterion.{Criterion}
use Rattle.certificate.specs.declared.record.EventList.{EventList}
use Rattle.certificate.specs.Record.{no_list, no_row, event_list_of, row_of, certificate_of, rows_of}
use Rattle.certificate.specs.Criteria.{has_pasts, count_from, view_numbers}
use Rattle.certificate.specs.Faults.{list_layout, list_limits, pair_fault, list_fault, list_said}
use Rattle.certificate.specs.Steps.Lists.{ListLine, list_line_of, list_with, list_read}
use Rattle.certificate.specs.Steps.Next.{next_read}
use Rattle.certificate_reader.specs.declared.left.LinesLeft.{LinesLeft}
use Rattle.certificate_reader.specs.ReadCertificate.{Lines, refusal, accepted, end_from, heading_from, lists_from, views_from, pasts_from, body_from}
use Rattle.certificate_reader.specs.Steps.Lines.{refused, LinesSay, left_say, Kept, ListsDone, ListsRead, PastsDone, PastsRead, ViewsDone, AllDone}
use Rattle.certificate_reader.proofs.ReadLaws.{lists-cut, lists-more, lists-bad, lists-done}

-- ---- a line that was read
with-fault : (k : ℕ) (xs : List ℕ) → (list_with k xs).fault ≡ k
with-fault k xs = by-eq k 0 (λ z. rw (eq-eqb k 0 z) (sym z)) (λ z. rw (ne_eqb k 0 z))

with-list : (k : ℕ) (xs : List ℕ) → k ≡ 0 → (list_with k xs).list ≡ event_list_of xs
with-list k xs z = rw (eq-eqb k 0 z)

abbrev cut : ListLine
cut = record { fault = 2; list = no_list }

-- x is what the next line is read as, which has e bytes
module _ (past : Bool) (count n : ℕ) (s : List ℕ) (x : ListLine) (e : ℕ) (q : x ≡ next_read past count n s) (found : e ≡ find 10 s) where
  read-at : e < length s → x ≡ list_read past count n (take e s)
  read-at k = q ∙ next-line (list_read past count n) cut s (omega arith) ∙ ap (λ (m : ℕ). list_read past count n (take m s)) (sym found)

  read-cut : length s ≤ e → x.fault ≡ 2
  read-cut k = ap (λ (y : ListLine). y.fault) (q ∙ next-cut (list_read past count n) cut s (omega arith))

  read-fault : e < length s → x.fault ≡ list_fault past count n (take e s)
  unfolding list_read
  read-fault k = ap (λ (y : ListLine). y.fault) (read-at k) ∙ with-fault (list_fault past count n (take e s)) (list_said (take e s))

  -- a line without a fault has its line feed
  pub read_short : x.fault ≡ 0 → e < length s
  read_short z = by-lt e (length s) (λ k. k) (λ k. absurd (omega (arith, read-cut k)))

  read_none : x.fault ≡ 0 → list_fault past count n (take e s) ≡ 0
  read_none z = sym (read-fault (read_short z)) ∙ z

  read-list : x.fault ≡ 0 → x.list ≡ event_list_of (list_said (take e s))
  unfolding list_read
  read-list z =
      ap (λ (y : ListLine). y.list) (read-at (read_short z)) ∙ with-list (list_fault past count n (take e s)) (list_said (take e s)) (read_none z)

-- a list without a fault has no more entries than the history has events
pair-few : (past : Bool) (count n : ℕ) (a s : List ℕ) → pair_fault past count n a s ≡ 0 → length (items_of s) ≤ count
unfolding pair_fault list_limits
pair-few past count n a s z =
    by_bool (list_layout n a s)
    (λ l.
    by_bool (all_below count (items_of s) && leb (length (items_of s)) count)
    (λ m. leb-true (length (items_of s)) count (and_right (all_below count (items_of s)) (leb (length (items_of s)) count) m))
    (λ m. let b : ◌≡◌ {A = ℕ} 3 0 = rw (l, m) at z in absurd (omega arith)))
    (λ l. let b : ◌≡◌ {A = ℕ} 2 0 = rw l at z in absurd (omega arith))

pub list-few : (past : Bool) (count n : ℕ) (line : List ℕ) → list_fault past count n line ≡ 0 → length (list_said line) ≤ count
unfolding list_fault list_said numbers_of
list-few past count n line z =
    by_bool (eqb (length (split 32 line)) 2)
    (λ t.
    let k : pair_fault past count n (get_or (split 32 line) 0 []) (get_or (split 32 line) 1 []) ≡ 0 = rw t at z in
    omega (arith, length-map (items_of (get_or (split 32 line) 1 [])) value, pair-few past count n _ _ k))
    (λ t. let b : ◌≡◌ {A = ℕ} 2 0 = rw t at z in absurd (omega arith))

-- ---- the next line is x, and its number is n
module _ (line at : ℕ) (s : List ℕ) (x : ListLine) (e : ℕ) (found : e ≡ find 10 s)
    (past : Bool) (count : ℕ) (next : List (List ℕ) → ℕ → ℕ → List (List ℕ) → Lines) (n : ℕ) (ns : List ℕ) (ls : List (List ℕ))
    (q : x ≡ next_read past count n s) where
  cut-here : e < length s → split 10 s ≡ take e s ∷ split 10 (drop (e + 1) s)
  cut-here k = rw (found, add-one) (split-more 10 s (omega (arith, found)))

  long : e < length s → length (take e s) ≡ e
  long k = length-take-le e s (omega arith)

  list-bad : (x.fault ≡ 0 → ⊥) → lists_from past count next (n ∷ ns) ls line at (split 10 s) ≡ refusal x.fault line at e
  list-bad z =
      by-lt e (length s)
      (λ k.
      lists-bad line at s (take e s) (drop (e + 1) s) (cut-here k) past count next n ns ls x.fault (read-fault past count n s x e q found k) z
      ∙ ap (refusal x.fault line at) (long k))
      (λ k.
      let m : length s ≡ e = omega (arith, found, find-le 10 s) in
      lists-cut line at s (split-last 10 s (omega (arith, found))) past count next n ns ls
      ∙ ap₂ (λ (f m : ℕ). refusal f line at m) (sym (read-cut past count n s x e q found k)) m)

  list-more : x.fault ≡ 0 → lists_from past count next (n ∷ ns) ls line at (split 10 s)
      ≡ lists_from past count next ns (ls ++ list_said (take e s) ∷ []) (line + 1) (at + e + 1) (split 10 (drop (e + 1) s))
  list-more z =
      let k = read_short past count n s x e q found z in
      lists-more line at s (take e s) (drop (e + 1) s) (cut-here k) past count next n ns ls x.fault (read-fault past count n s x e q found k) z
      ∙ ap (λ (m : ℕ). lists_from past count next ns (ls ++ list_said (take e s) ∷ []) (line + 1) (at + m + 1) (split 10 (drop (e + 1) s))) (long k)

-- ---- the lines that are left behind the next one, which has e bytes
abbrev pub Behind : LinesLeft → ℕ → LinesLeft → Type 0
Behind now e after = (after.text.now ≡ drop (e + 1) now.text.now) × (after.line ≡ now.line + 1) × (after.start ≡ now.start + e + 1)

pub behind-say : (say : LinesSay) (now : LinesLeft) (e : ℕ) (after : LinesLeft) → Behind now e after
    → say (now.line + 1) (now.start + e + 1) (split 10 (drop (e + 1) now.text.now)) ≡ left_say say after
behind-say say now e after b = rw (b.0, b.1, b.2)

-- behind the first line
pub first-say : (say : LinesSay) (now : LinesLeft) (e : ℕ) (after : LinesLeft) → (now.line ≡ 1) × (now.start ≡ 0) → Behind now e after
    → say 2 (e + 1) (split 10 (drop (e + 1) now.text.now)) ≡ left_say say after
first-say say now e after first b =
    let l : 2 ≡ now.line + 1 = omega (arith, first.0) in
    let k : e + 1 ≡ now.start + e + 1 = omega (arith, first.1) in
    ap₂ (λ (x y : ℕ). say x y (split 10 (drop (e + 1) now.text.now))) l k ∙ behind-say say now e after b

pub first-refused : (now : LinesLeft) (e : ℕ) (r : Refusal) → (now.line ≡ 1) × (now.start ≡ 0) → refused r ≡ refusal 2 now.line now.start e
    → refusal 2 1 0 e ≡ refused r
first-refused now e r first q = ap₂ (λ (x y : ℕ). refusal 2 x y e) (sym first.0) (sym first.1) ∙ sym q

-- ---- the lists that are kept in an array: what the rest of the text will say
pub record Reading (past : Bool) (count : ℕ) (numbers : List ℕ) (old : LinesLeft) (lists : List EventList) (i : ℕ) (now : LinesLeft) : Type 0 where
  pub said : List (List ℕ)
  pub long : length said ≡ i
  pub kept : Kept said lists
  pub says : (next : List (List ℕ) → LinesSay)
      → left_say (lists_from past count next numbers []) old ≡ left_say (lists_from past count next (drop i numbers) said) now

set-short : (lists : List EventList) (i : ℕ) (l : EventList) → l.count ≤ 64 → i < length lists → ((k : ℕ) → (get_or lists k no_list).count ≤ 64)
    → (k : ℕ) → (get_or (set lists i l) k no_list).count ≤ 64
set-short lists i l s h p k =
    by-eq k i
    (λ e. rw (e, get_or-set_same) s)
    (λ n. rw get_or-set_other (p k))

kept-none : (lists : List EventList) → lists ≡ replicate 64 no_list → Kept [] lists
unfolding pad
kept-none lists e = record {
  pads = e;
  short = λ k.
      let blank : get_or lists k no_list ≡ no_list = ap (λ (l : List EventList). get_or l k no_list) e ∙ get_or-pad 64 no_list [] k ∙ get_or-eq_default [] no_list {n = k} (omega arith) in
      rw blank (omega arith);
}

module _ (past : Bool) (count : ℕ) (numbers : List ℕ) (old : LinesLeft) where
  pub reading-begins : (lists : List EventList) → lists ≡ replicate 64 no_list → Reading past count numbers old lists 0 old
  reading-begins lists e = record { said = []; long = refl; kept = kept-none lists e; says = λ next. refl }

  module _ {lists : List EventList} {i : ℕ} {now : LinesLeft} (v : Reading past count numbers old lists i now) where
    -- no number is left
    pub reading-ends : length numbers ≤ i → ListsDone past count numbers old now lists
    reading-ends h = record {
      said = v.said;
      kept = v.kept;
      says =
          λ next.
          v.says next
          ∙ ap (λ (ns : List ℕ). left_say (lists_from past count next ns v.said) now) (drop_of_length-le numbers {i = i} h)
          ∙ lists-done past count next v.said now.line now.start (split 10 now.text.now);
    }

    -- the next line is r, and has e bytes
    module _ (h : i < length numbers) (e : ℕ) (r : Result EventList Fault)
        (q : list_line_of r ≡ next_read past count (get_or numbers i 0) now.text.now) (found : e ≡ find 10 now.text.now) where
      abbrev own : ℕ
      own = get_or numbers i 0

      next-is : (next : List (List ℕ) → LinesSay)
          → left_say (lists_from past count next numbers []) old ≡ left_say (lists_from past count next (own ∷ drop (i + 1) numbers) v.said) now
      next-is next =
          v.says next ∙ ap (λ (ns : List ℕ). left_say (lists_from past count next ns v.said) now) (at-cons numbers i h)

      pub reading-bad : (f : Fault) → r ≡ Err f → (next : List (List ℕ) → LinesSay)
          → left_say (lists_from past count next numbers []) old ≡ refusal (fault_number f) now.line now.start e
      reading-bad f z next =
          let k : (list_line_of r).fault ≡ fault_number f = ap (λ (r : Result EventList Fault). (list_line_of r).fault) z in
          next-is next
          ∙ list-bad now.line now.start now.text.now (list_line_of r) e found past count next own (drop (i + 1) numbers) v.said q
          (λ n. fault-some f (sym k ∙ n))
          ∙ ap (λ (n : ℕ). refusal n now.line now.start e) k

      module _ (l : EventList) (z : r ≡ Ok l) where
        no-fault : (list_line_of r).fault ≡ 0
        no-fault = ap (λ (r : Result EventList Fault). (list_line_of r).fault) z

        pub reading-short : e < length now.text.now
        reading-short = read_short past count own now.text.now (list_line_of r) e q found no-fault

        abbrev entries : List ℕ
        entries = list_said (take e now.text.now)

        list-is : l ≡ event_list_of entries
        list-is =
            sym (ap (λ (r : Result EventList Fault). (list_line_of r).list) z)
            ∙ read-list past count own now.text.now (list_line_of r) e q found no-fault

        few : length entries ≤ count
        few = list-few past count own (take e now.text.now) (read_none past count own now.text.now (list_line_of r) e q found no-fault)

        small : count ≤ 64 → l.count ≤ 64
        unfolding event_list_of
        small c = let k : l.count ≡ length entries = ap (λ (l : EventList). l.count) list-is in omega (arith, few)

        pub reading-more : count ≤ 64 → i < 64 → (after : LinesLeft) → Behind now e after → Reading past count numbers old (set lists i l) (i + 1) after
        reading-more c room after b =
            let many : length (map event_list_of v.said) ≡ i = length-map v.said event_list_of ∙ v.long in
            let wide : length lists ≡ 64 = ap length v.kept.pads ∙ pad-length 64 no_list (map event_list_of v.said) (omega arith) in
            record {
              said = v.said ++ entries ∷ [];
              long = omega (arith, length-append v.said (entries ∷ []), v.long);
              kept = record {
                pads =
                    rw (list-is, v.kept.pads)
                    (pad-set 64 no_list (map event_list_of v.said) i (event_list_of entries) (sym many) room)
                    ∙ ap (pad 64 no_list) (sym (map-append event_list_of v.said (entries ∷ [])));
                short = set-short lists i l (small c) (omega arith) v.kept.short;
              };
              says =
                  λ next.
                  next-is next
                  ∙ list-more now.line now.start now.text.now (list_line_of r) e found past count next own (drop (i + 1) numbers) v.said q no-fault
                  ∙ behind-say (lists_from past count next (drop (i + 1) numbers) (v.said ++ entries ∷ [])) now e after b;
            }

-- ---- the pasts
module _ (c : Criterion) (es : List Event) (old : LinesLeft) where
  pub pasts-none : has_pasts c ≡ false → (lists : List EventList) → lists ≡ replicate 64 no_list → PastsDone c es old old lists
  unfolding body_from
  pasts-none h lists e = record { pasts = []; kept = kept-none lists e; says = rw h }

  pub pasts-unheaded : has_pasts c ≡ true → (r : Refusal) → ((next : LinesSay) → left_say (heading_from past_heading next) old ≡ refused r)
      → left_say (body_from c es) old ≡ refused r
  unfolding body_from pasts_from
  pasts-unheaded h r p = rw h (p (lists_from true (length es) (views_from c (length es) (view_numbers c es)) (count_from 0 (length es)) []))

  pub pasts-read : has_pasts c ≡ true → (headed : LinesLeft) → ((next : LinesSay) → left_say (heading_from past_heading next) old ≡ left_say next headed)
      → (numbers : List ℕ) → numbers ≡ count_from 0 (length es) → (new : LinesLeft) (r : Result (List EventList) Refusal)
      → ListsRead true (length es) numbers headed new r → PastsRead c es old new r
  unfolding body_from pasts_from
  pasts-read h headed p numbers e new (Ok x) d =
      let d : ListsDone true (length es) (count_from 0 (length es)) headed new x = subst (λ (ns : List ℕ). ListsDone true (length es) ns headed new x) e d in record {
        pasts = d.said;
        kept = d.kept;
        says =
            rw h
            (p (lists_from true (length es) (views_from c (length es) (view_numbers c es)) (count_from 0 (length es)) [])
            ∙ d.says (views_from c (length es) (view_numbers c es)));
      }
  pasts-read h headed p numbers e new (Err f) d =
      let d : ListsRead true (length es) (count_from 0 (length es)) headed new (Err f) = subst (λ (ns : List ℕ). ListsRead true (length es) ns headed new (Err f)) e d in
      rw h
      (p (lists_from true (length es) (views_from c (length es) (view_numbers c es)) (count_from 0 (length es)) [])
      ∙ d (views_from c (length es) (view_numbers c es)))

-- ---- the views
module _ (c : Criterion) (es : List Event) (old : LinesLeft) where
  pub views-unheaded : (r : Refusal) → ((next : LinesSay) → left_say (heading_from view_heading next) old ≡ refused r)
      → (pasts : List (List ℕ)) → left_say (views_from c (length es) (view_numbers c es) pasts) old ≡ refused r
  unfolding views_from
  views-unheaded r p pasts = p (lists_from false (length es) (λ (views : List (List ℕ)). end_from (accepted c pasts views)) (view_numbers c es) [])

  module _ (headed : LinesLeft) (p : (next : LinesSay) → left_say (heading_from view_heading next) old ≡ left_say next headed) (numbers : List ℕ)
      (e : numbers ≡ view_numbers c es) (new : LinesLeft) where
    pub views-refused : (r : Refusal) → ListsRead false (length es) numbers headed new (Err r)
        → (pasts : List (List ℕ)) → left_say (views_from c (length es) (view_numbers c es) pasts) old ≡ refused r
    unfolding views_from
    views-refused r d pasts =
        let d : ListsRead false (length es) (view_numbers c es) headed new (Err r) = subst (λ (ns : List ℕ). ListsRead false (length es) ns headed new (Err r)) e d in
        p (lists_from false (length es) (λ (views : List (List ℕ)). end_from (accepted c pasts views)) (view_numbers c es) [])
        ∙ d (λ (views : List (List ℕ)). end_from (accepted c pasts views))

    module _ (x : List EventList) (d : ListsDone false (length es) numbers headed new x) where
      views-say : (pasts : List (List ℕ))
          → left_say (views_from c (length es) (view_numbers c es) pasts) old ≡ left_say (end_from (accepted c pasts d.said)) new
      unfolding views_from
      views-say pasts =
          p (lists_from false (length es) (λ (views : List (List ℕ)). end_from (accepted c pasts views)) (view_numbers c es) [])
          ∙ ap (λ (ns : List ℕ). left_say (lists_from false (length es) (λ (views : List (List ℕ)). end_from (accepted c pasts views)) ns []) headed) (sym e)
          ∙ d.says (λ (views : List (List ℕ)). end_from (accepted c pasts views))

      pub views-followed : (r : Refusal) → ((w : Lines) → left_say (end_from w) new ≡ refused r)
          → (pasts : List (List ℕ)) → left_say (views_from c (length es) (view_numbers c es) pasts) old ≡ refused r
      views-followed r q pasts = views-say pasts ∙ q (accepted c pasts d.said)

      pub views-done : ((w : Lines) → left_say (end_from w) new ≡ w) → ViewsDone c es old x
      views-done q = record { views = d.said; kept = d.kept; says = λ pasts. views-say pasts ∙ q (accepted c pasts d.said) }

-- ---- the record and the rows
map-blank : {A B : Type 0} (f : A → B) (n : ℕ) (d : A) → map f (replicate n d) ≡ replicate n (f d)
map-blank {B = B} f zero d = refl
map-blank {B = B} f (suc n) d = ap (λ (t : List B). f d ∷ t) (map-blank f n d)

map-pad : {A B : Type 0} (f : A → B) (n : ℕ) (d : A) (xs : List A) → map f (pad n d xs) ≡ pad n (f d) (map f xs)
unfolding pad
map-pad {B = B} f n d xs =
    map-append f xs (replicate (n - length xs) d)
    ∙ ap (λ (t : List B). map f xs ++ t) (map-blank f (n - length xs) d)
    ∙ ap (λ (k : ℕ). map f xs ++ replicate (n - k) (f d)) (sym (length-map xs f))

-- an array whose first places hold what f makes of a list
pub set-mapped : {A B : Type 0} (f : A → B) (xs : List B) (ys : List A) (i : ℕ) (d : A) → take i xs ≡ map f (take i ys) → i < length xs → i < length ys
    → take (i + 1) (set xs i (f (get_or ys i d))) ≡ map f (take (i + 1) ys)
set-mapped {B = B} f xs ys i d p h k =
    take_more_set xs i (f (get_or ys i d)) h
    ∙ ap (λ (t : List B). t ++ f (get_or ys i d) ∷ []) p
    ∙ sym (map-append f (take i ys) (get_or ys i d ∷ []))
    ∙ ap (map f) (sym (take_more ys i d k))

pub all-mapped : {A B : Type 0} (f : A → B) (xs : List B) (ys : List A) (i : ℕ) → take i xs ≡ map f (take i ys) → i ≡ length xs → i ≡ length ys → xs ≡ map f ys
all-mapped f xs ys i p h k = sym (rw h (take-length xs)) ∙ p ∙ ap (map f) (rw k (take-length ys))

map-counts : (ls : List (List ℕ)) → map (λ (l : EventList). l.count) (map event_list_of ls) ≡ map length ls
unfolding event_list_of
map-counts [] = refl
map-counts (l ∷ ls) = ap (λ (t : List ℕ). length l ∷ t) (map-counts ls)

map-rows : (ls : List (List ℕ)) → map (λ (l : EventList). l.events) (map event_list_of ls) ≡ map row_of ls
unfolding event_list_of row_of
map-rows [] = refl
map-rows (l ∷ ls) = ap (λ (t : List (List ℕ)). pad 64 0 l ∷ t) (map-rows ls)

pub all-done : (whole : Lines) (c : Criterion) (pasts views : List (List ℕ)) (lists array : List EventList) (lengths : List ℕ) (rows : List (List ℕ))
    → whole ≡ accepted c pasts views → Kept pasts lists → Kept views array
    → lengths ≡ map (λ (l : EventList). l.count) array → rows ≡ map (λ (l : EventList). l.events) array
    → AllDone whole rows (record { criterion = c; pasts = lists; lengths = lengths })
unfolding certificate_of rows_of
all-done whole c pasts views lists array lengths rows w p v l r = record {
  pasts = pasts;
  views = views;
  says = w;
  is =
      ap (λ (x : List EventList). record { criterion = c; pasts = x; lengths = lengths }) p.pads
      ∙ ap (λ (x : List ℕ). record { criterion = c; pasts = pad 64 no_list (map event_list_of pasts); lengths = x })
      (l ∙ ap (map (λ (l : EventList). l.count)) v.pads ∙ map-pad (λ (l : EventList). l.count) 64 no_list (map event_list_of views) ∙ ap (pad 64 0) (map-counts views));
  rows_are = r ∙ ap (map (λ (l : EventList). l.events)) v.pads ∙ map-pad (λ (l : EventList). l.events) 64 no_list (map event_list_of views) ∙ ap (pad 64 no_row) (map-rows views);
}
