-- The line that an answer carries (document 02, T-05): which numbers carry one, the line's number, and its bytes. Assumes nothing.
use Prim.Native.Nat.{ℕ, ◌+◌, ◌<◌}
use mathlib.Core.Path.{◌≡◌, refl, sym, ap, ◌∙◌, subst}
use mathlib.Core.Bool.{Bool, true, false, cond, true≢false, false≢true, ◌||◌}
use mathlib.Core.List.{List}
use mathlib.Core.Option.{Option, none, some}
use lib.ListN.{length, get_or}
use lib.Dec.{eqb, leb}
use borrow.Author.Tests.{eq-eqb, ne_eqb}
use Rattle.layout.proofs.Cases.{by-eq}
use Rattle.history.specs.Record.{no_event, events_in}
use Rattle.history.specs.HistoryText.{event_text}
use Rattle.history_reader.specs.Place.{Place, nowhere, event_place, line_of, part_at}
use Rattle.history_reader.specs.ReadHistory.{read_history}
use Rattle.history_theorems.proofs.EventLineTheorem.{event-line}
use Rattle.certificate.specs.declared.record.Criterion.{Criterion}
use Rattle.certificate_reader.specs.ReadCertificate.{read_certificate}
use Rattle.certificate_theorems.proofs.Theorems.{no-fault-history}
use Rattle.criteria.specs.Check.{Fault, fault11, fault12, fault13, fault14, fault15, fault16, fault20, answer_of, check}
use Rattle.checker.specs.CheckText.{Verdict, place_of, history_read, certificate_read, check_text, carried_line}
use Rattle.checker.specs.MadeText.{plain, made_answer, made_verdict}
use Rattle.checker.specs.WeakenText.{wanted_of, weakened_wanted, weaken_answer}
use Rattle.checker.specs.OneLine.{one_line_text, crossing, line_answer}
use Rattle.checker.proofs.TextTheorems.{checked-as, refused_as}
use Rattle.checker.proofs.EventLaws.{Below}
use Rattle.checker.proofs.VerdictLaws.{event-read}

none-some : {e : ℕ} → ◌≡◌ {A = Option ℕ} none (some e) → ⊥
none-some q = true≢false cc

-- "16 carries the line of its event .. and 11 to 13 carry theirs."
abbrev pub carries_event : ℕ → Bool
carries_event n = eqb n 11 || eqb n 12 || eqb n 13 || eqb n 16

abbrev pub has_event : Option ℕ → Bool
has_event none = false
has_event (some e) = true

event-by-number : (x : Option Fault) → has_event (answer_of x).event ≡ carries_event (answer_of x).number
event-by-number none = refl
event-by-number (some (fault11 e)) = refl
event-by-number (some (fault12 e)) = refl
event-by-number (some (fault13 e)) = refl
event-by-number (some (fault14 v)) = refl
event-by-number (some (fault15 v)) = refl
event-by-number (some (fault16 v e)) = refl
event-by-number (some (fault20 v)) = refl

module _ (history text : List ℕ) where
  -- ---- where both texts are read, the answers that carry an event are 11, 12, 13 and 16
  pub which-carry : (read_certificate history text).fault ≡ 0
      → has_event (check_text history text).event ≡ carries_event (check_text history text).number
  which-carry z =
      subst (λ (v : Verdict). has_event v.event ≡ carries_event v.number) (sym (checked-as history text z))
      (event-by-number (check (history_read history) (certificate_read history text)))

  -- ---- an answer that carries an event
  module _ (e : ℕ) (carries : (check_text history text).event ≡ some e) where
    -- both texts are read
    pub carrier-read : (read_certificate history text).fault ≡ 0
    carrier-read =
        by-eq (read_certificate history text).fault 0 (λ z. z)
        (λ n. absurd (none-some (sym (ap (λ (v : Verdict). v.event) (refused_as history text n)) ∙ carries)))

    found : (answer_of (check (history_read history) (certificate_read history text))).event ≡ some e
    found = sym (ap (λ (v : Verdict). v.event) (checked-as history text carrier-read)) ∙ carries

    -- it carries the line of that event, "as part of the history text", and "its line number is the event's number plus the count of objects
    -- plus 3"
    pub carried-place : (check_text history text).place ≡ event_place history (read_history history).history.declared e
    carried-place =
        ap (λ (v : Verdict). v.place) (checked-as history text carrier-read)
        ∙ ap (place_of history (read_history history).history.declared) found

    pub carried-number : line_of (check_text history text).place ≡ some (e + (read_history history).history.declared + 3)
    carried-number = ap line_of carried-place

    -- it is an event of the history, and the bytes of the line are the text of that event
    pub carried-event : e < (read_history history).history.count
    carried-event = subst (Below (read_history history).history.count) found (event-read history text carrier-read)

    pub carried-line : carried_line history text ≡ event_text e (get_or (events_in (read_history history).history) e no_event)
    unfolding carried_line
    carried-line =
        ap (λ (p : Place). part_at p history text) carried-place
        ∙ event-line history e (no-fault-history history text carrier-read) carried-event

  -- ---- where both texts are read, an answer that carries no event carries no line
  pub no_line : (read_certificate history text).fault ≡ 0 → (check_text history text).event ≡ none → (check_text history text).place ≡ nowhere
  no_line z q =
      ap (λ (v : Verdict). v.place) (checked-as history text z)
      ∙ ap (place_of history (read_history history).history.declared) (sym (ap (λ (v : Verdict). v.event) (checked-as history text z)) ∙ q)

  -- ---- every answer but 17 and 18, and 26 where two updates cross, is that of the check
  made-as-check : (v : Verdict) (c : Criterion) (crossing : Bool) (t : Option (List ℕ)) (buffer : List ℕ)
      → ((made_answer v c crossing t buffer).number ≡ 17 → ⊥) → ((made_answer v c crossing t buffer).number ≡ 18 → ⊥)
      → (crossing ≡ true → (made_answer v c crossing t buffer).number ≡ 26 → ⊥) → made_answer v c crossing t buffer ≡ v
  made-as-check v c crossing none buffer n m x = absurd (n refl)
  made-as-check v c crossing (some t) buffer n m x = go (eqb v.number 0) crossing (leb (length t) (length buffer)) m x
    where
      answer : Bool → Bool → Bool → Verdict
      answer a b d = cond a (cond b (plain c 26) (cond d v (plain c 18))) v

      go : (a b d : Bool) → ((answer a b d).number ≡ 18 → ⊥) → (b ≡ true → (answer a b d).number ≡ 26 → ⊥) → answer a b d ≡ v
      go true true d m x = absurd (x refl refl)
      go true false true m x = refl
      go true false false m x = absurd (m refl)
      go false b d m x = refl

  pub made-carries : (crossing : Bool) (t : Option (List ℕ)) (buffer : List ℕ) → ((made_verdict history text crossing t buffer).number ≡ 17 → ⊥)
      → ((made_verdict history text crossing t buffer).number ≡ 18 → ⊥)
      → (crossing ≡ true → (made_verdict history text crossing t buffer).number ≡ 26 → ⊥)
      → made_verdict history text crossing t buffer ≡ check_text history text
  made-carries crossing t buffer n m x =
      by-eq (read_certificate history text).fault 0
      (λ z.
      let e = eq-eqb (read_certificate history text).fault 0 z in
      rw e (made-as-check (check_text history text) (certificate_read history text).criterion crossing t buffer (rw e at n) (rw e at m) (rw e at x)))
      (λ f. rw (ne_eqb (read_certificate history text).fault 0 f) (sym (refused_as history text f)))

  -- "also in weakening"
  pub weakening-carries : (wanted : ℕ) (buffer : List ℕ) → ((weaken_answer history text wanted buffer).number ≡ 17 → ⊥)
      → ((weaken_answer history text wanted buffer).number ≡ 18 → ⊥) → weaken_answer history text wanted buffer ≡ check_text history text
  unfolding weaken_answer
  weakening-carries wanted buffer n m = made-carries false (weakened_wanted history text (wanted_of wanted)) buffer n m (λ t _. false≢true t)

  -- an answer of one line other than 17, 18 and 26 is the whole answer of the check
  pub line-carries : (buffer : List ℕ) → ((line_answer history text buffer).number ≡ 17 → ⊥) → ((line_answer history text buffer).number ≡ 18 → ⊥)
      → ((line_answer history text buffer).number ≡ 26 → ⊥) → line_answer history text buffer ≡ check_text history text
  unfolding line_answer
  line-carries buffer n m x = made-carries (crossing history text) (one_line_text history text) buffer n m (λ _. x)
