-- Laws of the line of a list that a text begins with. Assumes nothing.
use Prim.Native.Nat.{ℕ, ◌+◌, ◌-◌, ◌*◌, ◌/◌, ◌%◌, ◌≤◌, ◌<◌}
use native.Mathlib.Omega.{arith}
use mathlib.Core.Path.{◌≡◌, refl, sym, ap, ap₂, ◌∙◌}
use mathlib.Core.Bool.{Bool, true, false, not, ◌&&◌, ◌||◌, or-true}
use mathlib.Core.List.{List, [], ◌∷◌, ◌++◌, append_assoc}
use lib.ListN.{length, get_or, take, drop, set, replicate}
use lib.Dec.{leb, ltb}
use borrow.Author.Tests.{lt-ltb, ltb-true, leb-true}
use Rattle.std.proofs.Common.{Bor}
use Rattle.std.specs.Prelude.{Option, Some, None, MatchOption, IfSome, Ok, Err}
use Rattle.layout.specs.Split.{find}
use Rattle.layout.specs.Number.{spell}
use Rattle.layout.specs.List.{list_text}
use Rattle.layout.proofs.Cases.{and_left, and_right}
use Rattle.layout.proofs.FillLaws.{tail-part}
use Rattle.layout.proofs.LeadingLaws.{byte-leads}
use Rattle.layout.proofs.SpellLaws.{spell-low, spell_high}
use Rattle.history.specs.declared.fault.Fault.TheVariants.{Layout}
use Rattle.history.specs.declared.next.Next.{Next}
use Rattle.history.specs.Record.{pad}
use Rattle.history.proofs.NextLaws.{first-long, first-read}
use Rattle.history.proofs.NextLaws as laws
use Rattle.history.specs.Readable.{all_less}
use Rattle.history.proofs.ListedLaws.{Listed, listed_begins, listed_numbers, listed-small, listed-more, listed-filled, listed-count, listed-ends}
use Rattle.certificate.specs.declared.record.EventList.{EventList}
use Rattle.certificate.specs.Record.{no_list, event_list_of}
use Rattle.certificate.specs.Faults.{rising}
use Rattle.certificate.specs.CertificateText.{list_line}
use Rattle.certificate.specs.Steps.Lists.{ListLine, list_line_of, list_read}
use Rattle.certificate.specs.Steps.Next.{next_read, ListFirst, LineFirst}
use Rattle.certificate.proofs.LineTextLaws.{line-without, good-fault, line-said}

-- ---- a number of one digit or of two at the start of a text
begins-two : (s : List ℕ) (b c : ℕ) → 2 ≤ length s → get_or s 0 0 ≡ b → get_or s 1 0 ≡ c → s ≡ b ∷ c ∷ take (length s - 2) (drop 2 s)
begins-two [] b c h p q = absurd (omega arith)
begins-two (x ∷ []) b c h p q = absurd (omega arith)
begins-two (x ∷ y ∷ s) b c h p q = ap₂ {C = List ℕ} ◌∷◌ p (ap₂ {C = List ℕ} ◌∷◌ q (sym (tail-part (x ∷ y ∷ s) 2)))

module _ (s : List ℕ) (long : 2 ≤ length s) (p : 48 ≤ get_or s 0 0) (q : get_or s 0 0 ≤ 57) (v : ℕ) (is : v ≡ get_or s 0 0 - 48) where
  pub entry-one : (v < 100) × (s ≡ spell v ++ take (length s - 1) (drop 1 s))
  entry-one = (omega arith, rw (spell-low v [] (omega arith)) (byte-leads s (48 + v) (omega arith) (omega arith)))

  pub entry-two : 48 ≤ get_or s 1 0 → get_or s 1 0 ≤ 57 → (w : ℕ) → w ≡ get_or s 1 0 - 48 → (v ≡ 0 → ⊥)
      → (v * 10 + w < 100) × (s ≡ spell (v * 10 + w) ++ take (length s - 2) (drop 2 s))
  entry-two t u w second n =
      let e : spell (v * 10 + w) ≡ (48 + (v * 10 + w) / 10) ∷ (48 + (v * 10 + w) % 10) ∷ [] =
      spell_high (v * 10 + w) [] (omega arith) ∙ spell-low ((v * 10 + w) / 10) ((48 + (v * 10 + w) % 10) ∷ []) (omega arith) in
      (omega arith, rw e (begins-two s _ _ long (omega arith) (omega arith)))

-- ---- a past with one entry more
rising-more : (xs : List ℕ) (v w : ℕ) → rising (xs ++ v ∷ []) ≡ true → v < w → rising (xs ++ v ∷ w ∷ []) ≡ true
unfolding rising
rising-more [] v w e h = rw (lt-ltb v w h)
rising-more (x ∷ []) v w e h = rw (and_left (ltb x v) true e, lt-ltb v w h)
rising-more (x ∷ y ∷ xs) v w e h =
    let t : Bool = rising (y ∷ (xs ++ v ∷ [])) in
    rw (and_left (ltb x y) t e) (rising-more (y ∷ xs) v w (and_right (ltb x y) t e) h)

order-more : (past : Bool) (xs : List ℕ) (v w : ℕ) → not past || rising (xs ++ v ∷ []) ≡ true → not past || leb (v + 1) w ≡ true
    → not past || rising ((xs ++ v ∷ []) ++ w ∷ []) ≡ true
order-more false xs v w e h = refl
order-more true xs v w e h =
    rw (append_assoc xs (v ∷ []) (w ∷ [])) (rising-more xs v w e (omega (arith, leb-true (v + 1) w h)))

-- ---- a loop that reads entries: the text begins with the first k events, and the next one may be `low` or more in a past
pub record Reading (past : Bool) (count : ℕ) (text events : List ℕ) (k : ℕ) (rest : List ℕ) (low : ℕ) : Type 0 where
  pub listed : Listed 64 count text events k rest
  pub next : (v : ℕ) → not past || leb low v ≡ true → not past || rising (take k events ++ v ∷ []) ≡ true

pub reading_begins : (past : Bool) (count : ℕ) (text events : List ℕ) → events ≡ replicate 64 0 → Reading past count text events 0 text 0
unfolding rising
reading_begins past count text events e = record { listed = listed_begins 64 count text events e; next = λ v h. or-true (not past) }

module _ {past : Bool} {count : ℕ} {text events : List ℕ} {k : ℕ} {rest : List ℕ} {low : ℕ} (r : Reading past count text events k rest low)
    (fits : count ≤ 64) (room : k < count) (v : ℕ) (behind : List ℕ) (number : rest ≡ spell v ++ behind)
    (may : ltb v count && (not past || leb low v) ≡ true) where
  is-event : v < count
  is-event = ltb-true v count (and_left (ltb v count) (not past || leb low v) may)

  follows : not past || leb low v ≡ true
  follows = and_right (ltb v count) (not past || leb low v) may

  abbrev ys : List ℕ
  ys = take (k + 1) (set events k v)

  more-events : ys ≡ take k events ++ v ∷ []
  more-events = listed_numbers r.listed (omega arith) v behind number is-event

  -- a comma stands behind it
  pub reading-more : (after : List ℕ) → behind ≡ 44 ∷ after → Reading past count text (set events k v) (k + 1) after (v + 1)
  reading-more after c = record {
    listed = listed-more r.listed (omega arith) v behind number is-event after c;
    next = λ w h. rw more-events (order-more past (take k events) v w (r.next v follows) h);
  }

  -- a line feed stands behind it
  pub reading-ends : (after : List ℕ) → behind ≡ 10 ∷ after → ListFirst past count text (record { count = k + 1; events = set events k v }) after
  unfolding event_list_of
  reading-ends after c =
      let n = listed-count r.listed (omega arith) v behind number is-event in
      record {
        entries = ys;
        good = record {
          few = omega arith;
          small = listed-small r.listed (omega arith) v behind number is-event;
          order = rw more-events (r.next v follows);
        };
        spelt = listed-ends r.listed (omega arith) v behind number is-event ∙ ap (λ (l : List ℕ). list_text ys ++ l) c;
        told = rw (n, ← (listed-filled r.listed (omega arith) v behind number is-event).pads);
      }

-- ---- the empty list
pub empty-list : (past : Bool) (count : ℕ) (text rest : List ℕ) → text ≡ 45 ∷ 10 ∷ rest → ListFirst past count text no_list rest
unfolding all_less rising event_list_of pad list_text
empty-list past count text rest p = record {
  entries = [];
  good = record { few = omega arith; small = refl; order = or-true (not past) };
  spelt = p;
  told = refl;
}

-- ---- the line
-- its own number and a space, and its list behind them
pub line-first : (past : Bool) (count own v : ℕ) (text rest : List ℕ) → text ≡ spell v ++ 32 ∷ rest → v ≡ own
    → (o : Option (EventList × Bor (List ℕ))) → IfSome o (λ r. ListFirst past count rest r.0 r.1.now)
    → IfSome o (λ r. LineFirst past count own text r.0 r.1.now)
unfolding list_line
line-first past count own v text rest p is None t = tt
line-first past count own v text rest p is (Some r) t = record {
  entries = t.entries;
  good = t.good;
  spelt = rw is at p ∙ rw (t.spelt, append_assoc);
  told = t.told;
}

module _ (past : Bool) (count own : ℕ) (text : List ℕ) where
  abbrev cut : ListLine
  cut = record { fault = 2; list = no_list }

  -- the line of a good list
  read-good : (l : EventList) (rest : List ℕ) (first : LineFirst past count own text l rest)
      → list_read past count own (list_line own first.entries) ≡ record { fault = 0; list = l }
  unfolding list_read
  read-good l rest first = rw (good-fault past count own first.entries first.good, line-said own first.entries, first.told)

  first-told : (q : Option (EventList × Bor (List ℕ))) → IfSome q (λ r. LineFirst past count own text r.0 r.1.now)
      → IfSome q (λ r. (find 10 text + 1 + length r.1.now ≡ length text) × (next_read past count own text ≡ list_line_of (Ok r.0)))
  first-told None t = tt
  first-told (Some (l, rest)) t =
      let line = list_line own t.entries in
      let clean = line-without own t.entries in (
        first-long (list_read past count own) cut text line rest.now clean t.spelt,
        first-read (list_read past count own) cut text line rest.now clean t.spelt ∙ read-good l rest.now t,
      )

  -- what the line is, in one pass or cut and read
  pub next-is : (q : Option (EventList × Bor (List ℕ))) (n : Next EventList) → IfSome q (λ r. LineFirst past count own text r.0 r.1.now)
      → MatchOption q
      ((n.length ≡ find 10 text) × (find 10 text < length text → list_line_of n.read ≡ list_read past count own (take (find 10 text) text)) × (length text ≤ find 10 text → n.read ≡ Err Layout))
      (λ r. (n.length + 1 + length r.1.now ≡ length text) × (n.read ≡ Ok r.0))
      → (list_line_of n.read ≡ next_read past count own text) × (n.length ≡ find 10 text) × (n.length ≤ length text)
  next-is q n first m = laws.next-is (list_read past count own) cut text list_line_of refl q n (first-told q first) m
