-- One line of stock, on texts (document 02, T-11): the theorem holds. Assumes nothing.
use Prim.Native.Nat.{ℕ, ◌≤◌, ◌<◌}
use mathlib.Core.Path.{◌≡◌, refl, ap, ◌∙◌}
use mathlib.Core.Bool.{true, false}
use mathlib.Core.List.{List, [], ◌∷◌}
use mathlib.Core.Option.{none, some}
use lib.ListN.{length, get_or}
use Rattle.history_reader.specs.ReadHistory.{read_history}
use Rattle.certificate.specs.declared.record.Criterion.{Criterion}
use Rattle.certificate.specs.declared.record.Criterion.TheVariants.{Sequential}
use Rattle.certificate.specs.Criteria.{has_pasts}
use Rattle.certificate_theorems.proofs.Theorems.{events_of, no-fault-history}
use Rattle.criteria.specs.Certificate.{Certificate, Readable, order}
use Rattle.criteria.specs.Check.{check}
use Rattle.criteria.specs.Weaken.{precedes}
use Rattle.criteria.specs.OneLine.{one_line, in_one_line}
use Rattle.criteria.proofs.Weaken as OnLists
use Rattle.criteria.proofs.OneLine.{one-line-accepted, line-seen, line-rising}
use Rattle.checker.specs.CheckText.{history_read, certificate_read, check_text, Accepted, Names}
use Rattle.checker.specs.MadeText.{text_of_lists, text_if_some, Written, Unwritten}
use Rattle.checker.specs.OneLine.{one_line_text, crossing, line_answer, line_length, line_bytes, WithPasts, InOneLine, OneLine}
use Rattle.checker.proofs.TextTheorems.{accepted-read, accepted-passes, named, few-processes-of, lists-readable}
use Rattle.checker.proofs.MadeLaws.{lists-bytes, made-read, made-accepted, made-names, not_made, made-faulty, made-written, made-too-short, made-crossed}

module _ (history text : List ℕ) (v : Criterion) (names : Names history text v) (pasts : has_pasts v ≡ true) where
  has-pasts : has_pasts (certificate_read history text).criterion ≡ true
  has-pasts = ap has_pasts (named history text v names) ∙ pasts

  -- the sequential certificate of the line, and its text
  line : Certificate
  line = record { criterion = Sequential; pasts = []; views = one_line (history_read history) (order (history_read history) (certificate_read history text)) ∷ [] }

  is_line : in_one_line (history_read history) (certificate_read history text) ≡ some line
  unfolding in_one_line line
  is_line = rw has-pasts refl

  is-text : one_line_text history text ≡ some (text_of_lists (events_of history) line)
  unfolding one_line_text
  is-text = ap (text_if_some (events_of history)) is_line

  -- a fault of the check
  faulty-as-check : (Accepted history text → ⊥) → (buffer : List ℕ)
      → (line_answer history text buffer ≡ check_text history text) × (line_length history text buffer ≡ 0) × (line_bytes history text buffer ≡ buffer)
  unfolding line_answer line_length line_bytes
  faulty-as-check f buffer = rw is-text (made-faulty history text v names f (crossing history text) (text_of_lists (events_of history) line) buffer)

module _ (history text : List ℕ) (v : Criterion) (x : WithPasts history text v) where
  abbrev certificate : Certificate
  certificate = line history text v x.names x.pasts

  -- ---- where no two updates cross
  in-line : crossing history text ≡ false → InOneLine history text
  unfolding crossing line
  in-line n = record {
    line = text_of_lists (events_of history) certificate;
    is_line = is-text history text v x.names x.pasts;
    bytes = lists-bytes (events_of history) certificate;
    accepted = made-accepted history z Sequential certificate a;
    names = made-names history z Sequential certificate a;
    seen = λ f e l m t.
        ap (λ (d : Certificate). precedes (get_or d.views 0 []) f e) (made-read history z Sequential certificate a)
        ∙ line-seen (history_read history) (certificate_read history text) r p n f e l m t;
    rising = λ f e l m s t q.
        ap (λ (d : Certificate). precedes (get_or d.views 0 []) f e) (made-read history z Sequential certificate a)
        ∙ line-rising (history_read history) (certificate_read history text) r p n f e l m s t q;
  }
    where
      z : (read_history history).fault ≡ 0
      z = no-fault-history history text (accepted-read history text x.accepted)

      r : Readable (history_read history) (certificate_read history text)
      r = lists-readable history text (accepted-read history text x.accepted)

      p : check (history_read history) (certificate_read history text) ≡ none
      p = accepted-passes history text x.accepted

      a : OnLists.Accepted (history_read history) Sequential certificate
      a =
          one-line-accepted (history_read history) (certificate_read history text) certificate (few-processes-of history text x.accepted) r p n (is_line history text v x.names x.pasts)

  -- ---- what is answered, the length and the buffer
  module _ (t : List ℕ) (e : one_line_text history text ≡ some t) (buffer : List ℕ) where
    written-to : crossing history text ≡ false → length t ≤ length buffer
        → Written (line_answer history text buffer) (line_length history text buffer) (line_bytes history text buffer) v t buffer
    unfolding line_answer line_length line_bytes
    written-to n l = rw (e, n) (made-written history text x.accepted v x.names t buffer l)

    too-short-for : crossing history text ≡ false → length buffer < length t
        → Unwritten (line_answer history text buffer) (line_length history text buffer) (line_bytes history text buffer) v 18 buffer
    unfolding line_answer line_length line_bytes
    too-short-for n l = rw (e, n) (made-too-short history text x.accepted v x.names t buffer l)

    crossed-in : crossing history text ≡ true
        → Unwritten (line_answer history text buffer) (line_length history text buffer) (line_bytes history text buffer) v 26 buffer
    unfolding line_answer line_length line_bytes
    crossed-in n = rw (e, n) (made-crossed history text x.accepted v x.names t buffer)

-- ---- a certificate without pasts
no_text : (history text : List ℕ) (v : Criterion) → Names history text v → has_pasts v ≡ false → one_line_text history text ≡ none
unfolding one_line_text in_one_line
no_text history text v n t = rw (ap has_pasts (named history text v n) ∙ t) refl

without-pasts : (history text : List ℕ) (v : Criterion) → Names history text v → has_pasts v ≡ false → (buffer : List ℕ)
    → Unwritten (line_answer history text buffer) (line_length history text buffer) (line_bytes history text buffer) v 17 buffer
unfolding line_answer line_length line_bytes
without-pasts history text v n t buffer = rw (no_text history text v n t) (not_made history text v n (crossing history text) buffer)

pub one_line_lem : OneLine
one_line_lem = record {
  no_pasts = without-pasts;
  faulty = λ history text v n t f buffer. faulty-as-check history text v n t f buffer;
  accepted_in_line = in-line;
  written = λ history text v x n t e buffer l. written-to history text v x t e buffer n l;
  too_short = λ history text v x n t e buffer l. too-short-for history text v x t e buffer n l;
  crossed = λ history text v x n buffer. crossed-in history text v x (text_of_lists (events_of history) (certificate history text v x)) (is-text history text v x.names x.pasts) buffer n;
}
