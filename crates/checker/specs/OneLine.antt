-- One line of stock (document 02, T-11), on texts: the sequential certificate text of an accepted one whose causal order orders every two
-- updates, what is answered, and the theorem.
use Rattle.std.specs.Prelude.{ℕ, ◌≤◌, ◌<◌, ◌≡◌, Bool, true, false, List, [], length, get_or}
use Rattle.std.proofs.Math.Option.{Option, some}
use Rattle.history.specs.Record.{events_in}
use Rattle.history_reader.specs.ReadHistory.{read_history}
use Rattle.certificate.specs.declared.record.Criterion.{Criterion}
use Rattle.certificate.specs.declared.record.Criterion.TheVariants.{Sequential}
use Rattle.certificate.specs.Criteria.{has_pasts}
use Rattle.criteria.specs.History.{size}
use Rattle.criteria.specs.Certificate.{order}
use Rattle.criteria.specs.Weaken.{precedes}
use Rattle.criteria.specs.OneLine.{update, crosses, in_one_line}
use Rattle.checker.specs.CheckText.{Verdict, history_read, certificate_read, check_text, Accepted, Names}
use Rattle.checker.specs.MadeText.{text_if_some, made_verdict, length_made, bytes_made, Written, Unwritten}
use Rattle.checker.specs.Demand3.{Bytes}

-- None for "a pram or sequential certificate".
unfoldable pub one_line_text : List ℕ → List ℕ → Option (List ℕ)
one_line_text history text =
    text_if_some (events_in (read_history history).history) (in_one_line (history_read history) (certificate_read history text))

-- The certificate's order, which is its causal order where it has pasts, leaves two updates unordered.
unfoldable pub crossing : List ℕ → List ℕ → Bool
crossing history text = crosses (history_read history) (order (history_read history) (certificate_read history text))

-- What is answered, the length and the buffer afterwards.
unfoldable pub line_answer : List ℕ → List ℕ → List ℕ → Verdict
line_answer history text buffer = made_verdict history text (crossing history text) (one_line_text history text) buffer

unfoldable pub line_length : List ℕ → List ℕ → List ℕ → ℕ
line_length history text buffer = length_made (line_answer history text buffer) (one_line_text history text)

unfoldable pub line_bytes : List ℕ → List ℕ → List ℕ → List ℕ
line_bytes history text buffer = bytes_made (line_answer history text buffer) (one_line_text history text) buffer

-- An accepted certificate text that names a criterion with pasts: weak, causal, strict or converge.
pub record WithPasts (history text : List ℕ) (v : Criterion) : Type 0 where
  pub accepted : Accepted history text
  pub names : Names history text v
  pub pasts : has_pasts v ≡ true

-- Its text in one line: a text of bytes, accepted for the same history text, that names sequential; and in its order of all events an update
-- stands before an event exactly if it is in that event's past, and reads and peeks that saw the same updates stand by rising number.
pub record InOneLine (history text : List ℕ) : Type 0 where
  pub line : List ℕ
  pub is_line : one_line_text history text ≡ some line
  pub bytes : Bytes line
  pub accepted : Accepted history line
  pub names : Names history line Sequential
  pub seen : (f e : ℕ) → f < size (history_read history) → e < size (history_read history) → update (history_read history) f ≡ true
      → precedes (get_or (certificate_read history line).views 0 []) f e ≡ order (history_read history) (certificate_read history text) f e
  pub rising : (f e : ℕ) → f < e → e < size (history_read history) → update (history_read history) f ≡ false → update (history_read history) e ≡ false
      → ((g : ℕ) → g < size (history_read history) → update (history_read history) g ≡ true
      → order (history_read history) (certificate_read history text) g f ≡ order (history_read history) (certificate_read history text) g e)
      → precedes (get_or (certificate_read history line).views 0 []) f e ≡ true

-- "A pram or sequential certificate is 17, placed as in weakening", so before the faults of the check; a certificate with pasts that has a
-- fault is answered as the check does. "For every such certificate the text written is accepted. It refuses with 26, after the check and
-- before 18, a causal order that leaves two updates unordered."
pub record OneLine : Type 0 where
  pub no_pasts : (history text : List ℕ) (v : Criterion) → Names history text v → has_pasts v ≡ false → (buffer : List ℕ)
      → Unwritten (line_answer history text buffer) (line_length history text buffer) (line_bytes history text buffer) v 17 buffer
  pub faulty : (history text : List ℕ) (v : Criterion) → Names history text v → has_pasts v ≡ true → (Accepted history text → ⊥) → (buffer : List ℕ)
      → (line_answer history text buffer ≡ check_text history text) × (line_length history text buffer ≡ 0) × (line_bytes history text buffer ≡ buffer)
  pub accepted_in_line : (history text : List ℕ) (v : Criterion) → WithPasts history text v → crossing history text ≡ false → InOneLine history text
  pub written : (history text : List ℕ) (v : Criterion) → WithPasts history text v → crossing history text ≡ false
      → (line : List ℕ) → one_line_text history text ≡ some line → (buffer : List ℕ) → length line ≤ length buffer
      → Written (line_answer history text buffer) (line_length history text buffer) (line_bytes history text buffer) v line buffer
  pub too_short : (history text : List ℕ) (v : Criterion) → WithPasts history text v → crossing history text ≡ false
      → (line : List ℕ) → one_line_text history text ≡ some line → (buffer : List ℕ) → length buffer < length line
      → Unwritten (line_answer history text buffer) (line_length history text buffer) (line_bytes history text buffer) v 18 buffer
  pub crossed : (history text : List ℕ) (v : Criterion) → WithPasts history text v → crossing history text ≡ true → (buffer : List ℕ)
      → Unwritten (line_answer history text buffer) (line_length history text buffer) (line_bytes history text buffer) v 26 buffer
