-- What a history and a certificate within their limits give to the steps of the check, and the check as these steps. Assumes nothing.
use Prim.Native.Nat.{ℕ, ◌≤◌, ◌<◌}
use native.Mathlib.Omega.{arith}
use mathlib.Core.Path.{◌≡◌, refl, sym, ap, ap₂, ◌∙◌, subst, fun_ext}
use mathlib.Core.Bool.{Bool, true, false, cond, ◌&&◌}
use mathlib.Core.List.{List, [], map}
use mathlib.Core.Option.{Option, none, some}
use lib.ListN.{length, get_or, take, length-map, length-take, get_or-map}
use native.Mathlib.Nat.{min-le_left}
use lib.Seq.{get_or-take, length-take-le}
use Rattle.std.specs.Prelude.{Result, Ok, Err}
use lib.Dec.{ltb}
use borrow.Author.Tests.{le-ltb}
use Rattle.layout.proofs.Cases.{by-lt}
use Rattle.history.specs.declared.record.History as WrittenHistory
use Rattle.history.specs.Record.{no_event, events_in, pad}
use Rattle.history.specs.Readable.{within}
use Rattle.history.proofs.PadLaws.{get_or-pad, pad-length}
use Rattle.history.proofs.Guarantees.{Sound, within-sound}
use Rattle.certificate.specs.declared.record.EventList.{EventList}
use Rattle.certificate.specs.declared.record.Certificate as WrittenCertificate
use Rattle.certificate.specs.declared.numbers.ViewNumbers.{ViewNumbers}
use Rattle.certificate.specs.Record.{no_list, no_row, event_list_of, row_of, rows_of, entries_in, beginnings, pasts_in, views_in}
use Rattle.certificate.specs.Record as TextRecord
use Rattle.certificate.specs.Criteria.{has_pasts, view_numbers}
use Rattle.certificate.specs.Criteria as text
use Rattle.certificate.specs.Readable.{fits}
use Rattle.certificate.specs.Steps.Numbers.{view_numbers_of, event_each}
use Rattle.certificate.proofs.FitsLaws.{Fits, fits-facts}
use Rattle.certificate.proofs.Guarantees.{SoundCertificate, fits-sound}
use Rattle.criteria.specs.Tests.{or, mem}
use Rattle.criteria.specs.History.{Event, History, size, process, program_order}
use Rattle.criteria.specs.Certificate.{Certificate, is_strict, listed, order_by, order, past_count, Readable}
use Rattle.criteria.specs.Check.{Fault, find11, find12, find13, find14, find15, find16, find20, check}
use Rattle.criteria.specs.Records.{event_of, history_of, certificate_of}
use Rattle.criteria.proofs.Lists.{mem-get_or}
use Rattle.criteria.proofs.Loops.{any-default}
use Rattle.criteria.proofs.Check.{OfEvents, listed-events, program-causal}
use Rattle.criteria.proofs.RecordLaws.{size_is, event-is, view-count, view-number, readable}
use Rattle.orders.specs.Rows.{in_rows, IsOrder, ShortList, EventViews, view_at, program_in}
use Rattle.orders.proofs.ViewLaws.{view-first}
use Rattle.orders.proofs.ProgramLaws.{program-is}
use Rattle.replayed_views.proofs.DecidingLaws.{or_assoc}
use Rattle.faults.specs.declared.finding.Finding.{Finding}
use Rattle.faults.specs.Finding.{is_found, finding_of}
use Rattle.faults.specs.Steps.{order_fault, view_fault}
use Rattle.certificate.proofs.NumberingLaws.{counted as numbers-counted}
use Rattle.faults.proofs.RecordFacts.{number_at, numbers-long}
use Rattle.faults.proofs.OrderLaws.{order-faults}
use Rattle.faults.proofs.ViewedLaws.{view-faults}
use Rattle.faults.proofs.ReplayedLaws.{view-begins}

-- ---- the faults in order
or-first : (x y : Option Fault) → is_found x ≡ true → x ≡ or x y
or-first none y e = absurd-of e
  where
    absurd-of : false ≡ true → none ≡ y
    absurd-of p = cc
or-first (some f) y e = refl

or-next : (x y : Option Fault) → is_found x ≡ false → or x y ≡ y
or-next none y e = refl
or-next (some f) y e = absurd-of e
  where
    absurd-of : true ≡ false → some f ≡ y
    absurd-of p = cc

seven : (a b d e f s g : Option Fault) → or (or a (or b d)) (or (or e (or f s)) g) ≡ or a (or b (or d (or e (or f (or s g)))))
seven a b d e f s g =
    sym (or_assoc a (or b d) (or (or e (or f s)) g))
    ∙ ap (or a)
    (sym (or_assoc b d (or (or e (or f s)) g))
    ∙ ap (λ (x : Option Fault). or b (or d x)) (sym (or_assoc e (or f s) g) ∙ ap (or e) (sym (or_assoc f s g))))

seven-by : (x y z a b d e f s g : Option Fault) → x ≡ or a (or b d) → y ≡ or e (or f s) → z ≡ g
    → or x (or y z) ≡ or a (or b (or d (or e (or f (or s g)))))
seven-by x y z a b d e f s g p q r = rw (p, q, r) (seven a b d e f s g)

-- what a step found is the answer, after steps that found nothing
answers-first : (x a r : Option Fault) {k : Option Fault} → x ≡ a → is_found x ≡ true → k ≡ or a r → x ≡ k
answers-first x a r q e is = or-first x r e ∙ ap (λ (t : Option Fault). or t r) q ∙ sym is

answers_next : (x a r y : Option Fault) {k : Option Fault} → x ≡ a → is_found x ≡ false → k ≡ or a r → y ≡ r → y ≡ k
answers_next x a r y q e is p = p ∙ sym (or-next x r e) ∙ ap (λ (t : Option Fault). or t r) q ∙ sym is

-- ---- the order of a certificate
inside-by : (p : Bool) (h : History) (ps : List (List ℕ)) → length ps ≡ cond p (size h) 0 → ((k e : ℕ) → mem e (get_or ps k []) ≡ true → e < size h)
    → OfEvents h (order_by p h ps)
inside-by true h ps q i = listed-events (size h) ps q i
inside-by false h ps q i = (program-causal h).of_events

pub order-inside : (h : History) (c : Certificate) → Readable h c → OfEvents h (order h c)
order-inside h c r = inside-by (has_pasts c.criterion) h c.pasts r.pasts_listed (λ k. (r.past k).0)

order-by : (p : Bool) (h : History) (n : ℕ) (pasts : List EventList) (program : ℕ → ℕ → Bool) → program ≡ program_order h
    → (λ a b. cond p (listed (map entries_in (take n pasts)) a b) (program a b)) ≡ order_by p h (map entries_in (take (cond p n 0) pasts))
order-by true h n pasts program q = refl
order-by false h n pasts program q = q

-- program order of two arrays that agree on the processes of the first n events
program-same : (n : ℕ) (ps qs : List ℕ) → ((e : ℕ) → e < n → get_or ps e 0 ≡ get_or qs e 0) → (a b : ℕ) → program_in n ps a b ≡ program_in n qs a b
program-same n ps qs q a b =
    by-lt b n
    (λ l.
    by-lt a b
    (λ k. rw (q a (omega arith), q b l))
    (λ k. rw (le-ltb a b k)))
    (λ l. no-and (ltb a b) (ltb b n) _ _ (le-ltb b n l))
  where
    no-and : (t u x y : Bool) → u ≡ false → (t && u && x) ≡ (t && u && y)
    no-and true u x y e = rw e
    no-and false u x y e = refl

-- ---- lists in arrays
pub take-few : {A : Type 0} (n : ℕ) (xs : List A) → n ≤ 64 → length (take n xs) ≤ 64
take-few n xs h = let a = length-take n xs in let b = min-le_left n (length xs) in omega (arith, a, b)

pub taken : {A : Type 0} (n : ℕ) (xs : List A) (i : ℕ) → i < length (take n xs) → i < n
taken n xs i l = let a = length-take n xs in let b = min-le_left n (length xs) in omega (arith, a, b)

short-made : (xs : List ℕ) (n : ℕ) → n ≤ 64 → length xs ≤ n → ((i : ℕ) → i < length xs → get_or xs i 0 < n) → ShortList (event_list_of xs)
unfolding event_list_of
short-made xs n few le f = record {
  few = omega arith;
  entries = λ k l. rw (get_or-pad 64 0 xs k) (let x = f k l in omega arith);
}

row-entry : (v : List ℕ) (i : ℕ) → get_or (row_of v) i 0 ≡ get_or v i 0
unfolding row_of
row-entry v i = get_or-pad 64 0 v i

module _ (h : WrittenHistory.History) (w : within h ≡ true) where
  sound-h : Sound h
  sound-h = within-sound h w

  pub size_of : size (history_of h) ≡ h.count
  size_of = size_is h ∙ sound-h.events

  pub few-of : h.count ≤ 64
  few-of = sound-h.count

  -- the processes of the events of the record are those of the history
  pub process-of : (e : ℕ) → e < h.count → get_or (map (λ (x : Event). x.process) (history_of h).events) e 0 ≡ (get_or h.events e no_event).process.0
  unfolding event_of
  process-of e l =
      get_or-map (λ (x : Event). x.process) (history_of h).events e _
      ∙ ap (λ (x : Event). x.process) (event-is h e (omega (arith, sound-h.events)))
      ∙ ap (λ x. x.process.0) (get_or-take h.count h.events e no_event l)

  pub process-at : (ps : List ℕ) → ((e : ℕ) → e < 64 → get_or ps e 0 ≡ (get_or h.events e no_event).process.0)
      → (e : ℕ) → e < size (history_of h) → get_or ps e 0 ≡ process (history_of h) e
  unfolding event_of
  process-at ps q e l =
      let k : e < h.count = omega (arith, size_of) in
      q e (omega (arith, few-of))
      ∙ sym (ap (λ (x : Event). x.process) (event-is h e (omega (arith, sound-h.events)))
      ∙ ap (λ x. x.process.0) (get_or-take h.count h.events e no_event k))

  pub program-of : (ps : List ℕ) (program : List ℕ) → length ps ≡ 64 → ((e : ℕ) → e < 64 → get_or ps e 0 ≡ (get_or h.events e no_event).process.0)
      → IsOrder program (program_in (length (take h.count ps)) (take h.count ps)) → IsOrder program (program_order (history_of h))
  program-of ps program long q o a b =
      o a b
      ∙ ap (λ (n : ℕ). program_in n (take h.count ps) a b) (length-take-le h.count ps (omega (arith, long, few-of)))
      ∙ program-same h.count (take h.count ps) (map (λ (x : Event). x.process) (history_of h).events)
      (λ e l. get_or-take h.count ps e 0 l ∙ q e (omega (arith, few-of)) ∙ sym (process-of e l)) a b
      ∙ ap (λ (n : ℕ). program_in n (map (λ (x : Event). x.process) (history_of h).events) a b) (sym size_of)
      ∙ sym (program-is (history_of h) a b)

  module _ (c : WrittenCertificate.Certificate) (rows : List (List ℕ)) (f : fits (events_in h) c rows ≡ true)
      (few-views : length (view_numbers c.criterion (events_in h)) ≤ 64) where
    abbrev pub lists : Certificate
    lists = certificate_of h c rows

    abbrev pub viewed : List (List ℕ)
    viewed = views_in (length (view_numbers c.criterion (events_in h))) c rows

    abbrev pub pasts-listed : List (List ℕ)
    pasts-listed = pasts_in (text.past_count c.criterion (events_in h)) c

    pub facts : Fits (events_in h) c rows
    facts = fits-facts (events_in h) c rows (omega (arith, sound-h.events, few-of)) f

    sound-c : SoundCertificate (events_in h) c rows
    sound-c = fits-sound (events_in h) c rows (omega (arith, sound-h.events, few-of)) f

    pub readable_of : Readable (history_of h) lists
    readable_of = readable h c rows sound-c

    past-made : (k : ℕ) → get_or c.pasts k no_list ≡ event_list_of (get_or pasts-listed k [])
    unfolding event_list_of TextRecord.certificate_of pad
    past-made k =
        ap (λ (x : WrittenCertificate.Certificate). get_or x.pasts k no_list) facts.record_is
        ∙ get_or-pad 64 no_list (map event_list_of pasts-listed) k
        ∙ get_or-map event_list_of pasts-listed k []

    pub length-made : (k : ℕ) → get_or c.lengths k 0 ≡ length (get_or viewed k [])
    unfolding TextRecord.certificate_of
    length-made k =
        ap (λ (x : WrittenCertificate.Certificate). get_or x.lengths k 0) facts.record_is
        ∙ get_or-pad 64 0 (map length viewed) k
        ∙ get_or-map length viewed k []

    row_made : (k : ℕ) → get_or rows k no_row ≡ row_of (get_or viewed k [])
    unfolding row_of rows_of pad
    row_made k =
        ap (λ (x : List (List ℕ)). get_or x k no_row) facts.rows_are
        ∙ get_or-pad 64 no_row (map row_of viewed) k
        ∙ get_or-map row_of viewed k []

    rows_long : length rows ≡ 64
    unfolding rows_of
    rows_long =
        ap length facts.rows_are
        ∙ pad-length 64 no_row (map row_of viewed) (omega (arith, length-map viewed row_of, facts.view-count, few-views))

    -- a past is a list of at most 64 events
    past-size : (k : ℕ) → length (get_or pasts-listed k []) ≤ h.count
    unfolding certificate_of
    past-size k = let r : length (get_or pasts-listed k []) ≤ size (history_of h) = (readable_of.past k).1 in omega (arith, size_of)

    past-entry : (k i : ℕ) → i < length (get_or pasts-listed k []) → get_or (get_or pasts-listed k []) i 0 < h.count
    unfolding certificate_of
    past-entry k i l = let r = (readable_of.past k).0 _ (mem-get_or (get_or pasts-listed k []) i l) in omega (arith, size_of)

    pub short-past : (k : ℕ) → ShortList (get_or c.pasts k no_list)
    short-past k = subst ShortList (sym (past-made k)) (short-made (get_or pasts-listed k []) h.count few-of (past-size k) (past-entry k))

    -- the views are lists of events
    pub event-views : (m : ℕ) → m ≤ 64 → EventViews rows c.lengths m h.count
    unfolding certificate_of
    event-views m few = record {
      few = λ k l. let r : length (get_or viewed k []) ≤ size (history_of h) = (readable_of.view k).1 in omega (arith, length-made k, size_of, few-of);
      entries = λ k l i b.
          let v = get_or viewed k [] in
          let r = (readable_of.view k).0 (get_or v i 0) (mem-get_or v i (omega (arith, length-made k))) in
          let q : get_or (get_or rows k []) i 0 ≡ get_or v i 0 =
          ap (λ (x : List ℕ). get_or x i 0) (any-default rows k [] no_row (omega (arith, rows_long)) ∙ row_made k) ∙ row-entry v i in
          rw q (omega (arith, r, size_of));
    }

    pub short-views : (m : ℕ) → m ≤ 64 → EventViews rows c.lengths m 64
    short-views m few = let e = event-views m few in record {
      few = e.few;
      entries = λ k l i b. let x = e.entries k l i b in omega (arith, few-of);
    }

    -- the views of the record are those of the lists
    pub view-same : (m : ℕ) → m ≡ length (view_numbers c.criterion (events_in h)) → (k : ℕ) → k < m → view_at rows c.lengths k ≡ get_or viewed k []
    view-same m q k l = view-begins c.lengths rows (length (view_numbers c.criterion (events_in h))) k (omega (arith, q))

    -- the rows of the order are the order of the lists
    module _ (program order-rows : List ℕ) (is-program : IsOrder program (program_order (history_of h)))
        (ordered : (a b : ℕ) → in_rows order-rows a b ≡ cond (has_pasts c.criterion) (listed (map entries_in (take h.count c.pasts)) a b) (in_rows program a b)) where
      order_is : in_rows order-rows ≡ order (history_of h) lists
      unfolding certificate_of
      order_is =
          fun_ext (λ a. fun_ext (λ b. ordered a b))
          ∙ order-by (has_pasts c.criterion) (history_of h) h.count c.pasts (in_rows program) (fun_ext (λ a. fun_ext (λ b. is-program a b)))
          ∙ ap (λ (n : ℕ). order_by (has_pasts c.criterion) (history_of h) (map entries_in (take (cond (has_pasts c.criterion) n 0) c.pasts))) (sym sound-h.events)

      module _ (numbers : ViewNumbers) (numbered : numbers ≡ view_numbers_of (view_numbers c.criterion (events_in h)))
          (processes : List ℕ) (processed : (e : ℕ) → e < 64 → get_or processes e 0 ≡ (get_or h.events e no_event).process.0) where
        -- what the step of the views finds
        abbrev pub views_found : ℕ → Option Fault
        views_found n =
            view_fault (event_each c.criterion) (take numbers.count rows) (take numbers.count c.lengths) (take numbers.count numbers.numbers) order-rows processes
            (length (take numbers.count numbers.numbers)) (cond (is_strict c.criterion) (length (take numbers.count numbers.numbers)) 0) n

        numbers-as : length (take numbers.count numbers.numbers) ≡ numbers.count
        numbers-as = numbers-long numbers _ numbered

        first_step : order_fault order-rows program (cond (has_pasts c.criterion) h.count 0)
            ≡ or (find11 (history_of h) (order (history_of h) lists) (past_count c.criterion (history_of h)))
            (or (find12 (order (history_of h) lists) (past_count c.criterion (history_of h))) (find13 (history_of h) (order (history_of h) lists) (past_count c.criterion (history_of h))))
        first_step =
            ap (λ (n : ℕ). order_fault order-rows program (cond (has_pasts c.criterion) n 0)) (sym size_of)
            ∙ order-faults (history_of h) (order (history_of h) lists) order-rows program (omega (arith, size_of, few-of)) (λ a b. ap (λ (R : ℕ → ℕ → Bool). R a b) order_is) is-program
            (order-inside (history_of h) lists readable_of) (past_count c.criterion (history_of h))

        second-step : views_found h.count
            ≡ or (find14 c.criterion (history_of h) (order (history_of h) lists) viewed)
            (or (find15 c.criterion (history_of h) (order (history_of h) lists) viewed) (find20 c.criterion (history_of h) (order (history_of h) lists) viewed))
        unfolding certificate_of
        second-step =
            ap views_found (sym size_of)
            ∙ view-faults c.criterion (history_of h) (order (history_of h) lists) order-rows (take numbers.count rows) (take numbers.count c.lengths) (take numbers.count numbers.numbers) viewed
            (length (take numbers.count numbers.numbers))
            (omega (arith, size_of, few-of)) (λ a b. ap (λ (R : ℕ → ℕ → Bool). R a b) order_is) (order-inside (history_of h) lists readable_of)
            (numbers-as ∙ numbers-counted numbers _ numbered ∙ sym (view-count c.criterion h))
            (λ k l.
            get_or-take numbers.count numbers.numbers k 0 (omega (arith, numbers-as)) ∙ number_at numbers _ numbered k
            ∙ sym (view-number c.criterion h k (omega (arith, numbers-as, numbers-counted numbers _ numbered, view-count c.criterion h))))
            (λ k l.
            let b : k < numbers.count = omega (arith, numbers-as) in
            view-first rows c.lengths numbers.count k b ∙ view-same numbers.count (numbers-counted numbers _ numbered) k b)
            (λ k l. (readable_of.view k).0)
            processes (process-at processes processed)

        third-step : find16 c.criterion (history_of h) (in_rows order-rows) (beginnings (take numbers.count c.lengths) (take numbers.count rows))
            ≡ find16 c.criterion (history_of h) (order (history_of h) lists) viewed
        third-step =
            ap₂ (λ (R : ℕ → ℕ → Bool) (m : ℕ). find16 c.criterion (history_of h) R (beginnings (take m c.lengths) (take m rows))) order_is (numbers-counted numbers _ numbered)

        check-is : check (history_of h) lists
            ≡ or (order_fault order-rows program (cond (has_pasts c.criterion) h.count 0))
            (or (views_found h.count)
            (find16 c.criterion (history_of h) (in_rows order-rows) (beginnings (take numbers.count c.lengths) (take numbers.count rows))))
        unfolding check certificate_of
        check-is =
            let k : History = history_of h in
            let R : ℕ → ℕ → Bool = order (history_of h) lists in
            let among : ℕ = past_count c.criterion (history_of h) in
            sym (seven-by _ _ _ (find11 k R among) (find12 R among) (find13 k R among) (find14 c.criterion k R viewed) (find15 c.criterion k R viewed) (find20 c.criterion k R viewed) _ first_step second-step third-step)

        -- the answer is the first that a step finds
        pub order-answers : (x : Option Fault) → x ≡ order_fault order-rows program (cond (has_pasts c.criterion) h.count 0) → is_found x ≡ true
            → x ≡ check (history_of h) lists
        order-answers x q e = answers-first x _ _ q e check-is

        pub view-answers : (x y : Option Fault) → x ≡ order_fault order-rows program (cond (has_pasts c.criterion) h.count 0) → is_found x ≡ false
            → y ≡ views_found h.count → is_found y ≡ true
            → y ≡ check (history_of h) lists
        view-answers x y q e p d = answers_next x _ _ y q e check-is (answers-first y _ _ p d refl)

        pub replay-answers : (x y z : Option Fault) → x ≡ order_fault order-rows program (cond (has_pasts c.criterion) h.count 0) → is_found x ≡ false
            → y ≡ views_found h.count → is_found y ≡ false
            → z ≡ find16 c.criterion (history_of h) (in_rows order-rows) (beginnings (take numbers.count c.lengths) (take numbers.count rows))
            → z ≡ check (history_of h) lists
        replay-answers x y z q e p d r = answers_next x _ _ z q e check-is (answers_next y _ _ z p d refl r)

-- ---- the steps, by what each of them promises
module _ (h : WrittenHistory.History) (c : WrittenCertificate.Certificate) (rows : List (List ℕ)) (asked : (within h ≡ true) × (fits (events_in h) c rows ≡ true))
    (named : ViewNumbers) (numbered : (named ≡ view_numbers_of (view_numbers c.criterion (events_in h))) × (named.count ≤ 64)) where
  pub few-views : length (view_numbers c.criterion (events_in h)) ≤ 64
  few-views = omega (arith, numbers-counted named _ numbered.0, numbered.1)

  module _ (processes : List ℕ) (long : length processes ≡ 64) (processed : (e : ℕ) → e < 64 → get_or processes e 0 ≡ (get_or h.events e no_event).process.0)
      (program : List ℕ) (programmed : IsOrder program (program_in (length (take h.count processes)) (take h.count processes)))
      (order-rows : List ℕ)
      (ordered : (a b : ℕ) → in_rows order-rows a b ≡ cond (has_pasts c.criterion) (listed (map entries_in (take h.count c.pasts)) a b) (in_rows program a b))
      (among : ℕ) (counted : among ≡ cond (has_pasts c.criterion) h.count 0)
      (first : Result (Unit {0}) Finding) (first-is : finding_of first ≡ order_fault order-rows program among) where
    is-program : IsOrder program (program_order (history_of h))
    is-program = program-of h asked.0 processes program long processed programmed

    first-found : finding_of first ≡ order_fault order-rows program (cond (has_pasts c.criterion) h.count 0)
    first-found = first-is ∙ ap (order_fault order-rows program) counted

    pub order-stops : {f : Finding} → first ≡ Err f → finding_of first ≡ check (history_of h) (certificate_of h c rows)
    order-stops e =
        order-answers h asked.0 c rows asked.1 few-views program order-rows is-program ordered named numbered.0 processes processed
        (finding_of first) first-found (ap (λ (r : Result (Unit {0}) Finding). is_found (finding_of r)) e)

    module _ {u : Unit {0}} (passed : first ≡ Ok u)
        (second : Result (Unit {0}) Finding)
        (second-is : finding_of second
        ≡ view_fault (event_each c.criterion) (take named.count rows) (take named.count c.lengths) (take named.count named.numbers) order-rows processes
        (length (take named.count named.numbers)) (cond (is_strict c.criterion) (length (take named.count named.numbers)) 0) h.count) where
      pub views-stop : {f : Finding} → second ≡ Err f → finding_of second ≡ check (history_of h) (certificate_of h c rows)
      views-stop e =
          view-answers h asked.0 c rows asked.1 few-views program order-rows is-program ordered named numbered.0 processes processed
          (finding_of first) (finding_of second) first-found (ap (λ (r : Result (Unit {0}) Finding). is_found (finding_of r)) passed) second-is
          (ap (λ (r : Result (Unit {0}) Finding). is_found (finding_of r)) e)

      pub replay-stops : {v : Unit {0}} → second ≡ Ok v → (third : Result (Unit {0}) Finding)
          → finding_of third ≡ find16 c.criterion (history_of h) (in_rows order-rows) (beginnings (take named.count c.lengths) (take named.count rows))
          → finding_of third ≡ check (history_of h) (certificate_of h c rows)
      replay-stops e third third-is =
          replay-answers h asked.0 c rows asked.1 few-views program order-rows is-program ordered named numbered.0 processes processed
          (finding_of first) (finding_of second) (finding_of third) first-found (ap (λ (r : Result (Unit {0}) Finding). is_found (finding_of r)) passed) second-is
          (ap (λ (r : Result (Unit {0}) Finding). is_found (finding_of r)) e) third-is
