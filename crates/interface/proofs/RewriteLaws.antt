-- Laws of a text read and written back: the answer, the bytes and the length in each case. Assumes nothing.
use Rattle.std.specs.Prelude.{Result, Ok, Err, MatchResult, IsOkAnd, IsErrAnd}
use Prim.Native.Nat.{ℕ}
use mathlib.Core.Path.{◌≡◌, refl, sym, ap, ◌∙◌}
use mathlib.Core.Bool.{Bool, true, false, cond}
use mathlib.Core.List.{List}
use lib.ListN.{length}
use lib.Dec.{leb}
use borrow.Author.Tests.{ne_eqb}
use Rattle.layout.specs.Fill.{after}
use Rattle.history.specs.HistoryText.{history_text}
use Rattle.history.specs.Record.{events_in}
use Rattle.history.specs.Readable.{within}
use Rattle.history_reader.specs.ReadHistory.{HistoryRead, read_history}
use Rattle.history_writer.specs.declared.write.WriteFault.{WriteFault}
use Rattle.history_writer.specs.WriteHistory.{Written, write_fault_number, written_of, history_written, history_after}
use Rattle.history_theorems.proofs.Theorems as HistoryTheorems
use Rattle.certificate.specs.CertificateText.{certificate_text}
use Rattle.certificate_reader.specs.ReadCertificate.{CertificateRead, read_certificate, rows_read}
use Rattle.certificate_writer.specs.WriteCertificate.{writable, certificate_written, certificate_after}
use Rattle.certificate_theorems.proofs.Theorems.{no-fault-history, read_as, read-written, read_fits}
use Rattle.interface.specs.Rewrite.{rewritten, rewritten_bytes, rewritten_length}
use Rattle.interface.specs.Steps.{number_given, length_given}

-- the answer, the bytes and the length are those of the text written back, where its reading has this fault
abbrev pub Rewritten : ℕ → List ℕ → List ℕ → ℕ → List ℕ → ℕ → Type 0
Rewritten fault text buffer number bytes many =
    (number ≡ rewritten fault text buffer) × (bytes ≡ rewritten_bytes fault text buffer) × (many ≡ rewritten_length fault text buffer)

-- ---- what a writer answers, its length as it is and its refusal as the documents' number
pub told : (w m : Result ℕ WriteFault) (answer : Result ℕ ℕ) (P : ℕ → ℕ → Type 0) (Q : WriteFault → ℕ → Type 0)
    → MatchResult w (λ n. IsOkAnd m (P n)) (λ f. m ≡ Err f) → MatchResult m (λ n. answer ≡ Ok n) (λ f. IsErrAnd answer (Q f))
    → ((n x : ℕ) → P n x → x ≡ n) → ((f : WriteFault) (k : ℕ) → Q f k → k ≡ write_fault_number f)
    → (number_given answer ≡ (written_of w).number) × (length_given answer ≡ (written_of w).length)
told (Ok n) (Ok x) (Ok y) P Q h k p q = let same : y ≡ x = cc in (refl, same ∙ p n x h)
told (Ok n) (Ok x) (Err y) P Q h k p q = absurd (cc)
told (Ok n) (Err g) answer P Q h k p q = absurd h
told (Err f) (Ok x) answer P Q h k p q = absurd (cc)
told (Err f) (Err g) (Ok y) P Q h k p q = absurd k
told (Err f) (Err g) (Err y) P Q h k p q = let same : g ≡ f = cc in (q g y k ∙ ap write_fault_number same, refl)

-- ---- either text
module _ (text buffer : List ℕ) where
  -- a fault is the answer, and no byte changes
  pub refused : (k fault : ℕ) → k ≡ fault → (k ≡ 0 → ⊥) → Rewritten fault text buffer k buffer 0
  unfolding rewritten rewritten_bytes rewritten_length
  refused k fault q n =
      let e = ne_eqb k 0 n in
      (rw (sym q, e), rw (sym q, e, e), rw (sym q, e, e))

  -- what a writer does with the text of a record within its limits
  written_back : (t : Bool) → leb (length text) (length buffer) ≡ t
      → Rewritten 0 text buffer (cond t 0 18) (after text buffer) (cond t (length text) 0)
  unfolding rewritten rewritten_bytes rewritten_length after
  written_back true e = (rw e, rw e, rw e)
  written_back false e = (rw e, rw e, rw e)

-- ---- a history text, of which x is the reading
module _ (text buffer : List ℕ) (x : HistoryRead) (q : x ≡ read_history text) (z : x.fault ≡ 0) where
  HistoryReadable : (read_history text).fault ≡ 0
  HistoryReadable = sym (ap (λ (y : HistoryRead). y.fault) q) ∙ z

  history-inside : within x.history ≡ true
  history-inside = rw q (HistoryTheorems.read-within text HistoryReadable)

  history-says : history_text x.history ≡ text
  history-says = rw q (HistoryTheorems.read-written text HistoryReadable)

  history-answer : (t : Bool) → leb (length text) (length buffer) ≡ t
      → history_written x.history buffer ≡ record { number = cond t 0 18; length = cond t (length text) 0 }
  unfolding history_written
  history-answer true e = rw (history-inside, history-says, e)
  history-answer false e = rw (history-inside, history-says, e)

  history-bytes : history_after x.history buffer ≡ after text buffer
  unfolding history_after
  history-bytes = rw (history-inside, history-says)

  -- the record is written back as the text that was read
  pub history-back : (w : Written) (bytes : List ℕ) → w ≡ history_written x.history buffer → bytes ≡ history_after x.history buffer
      → Rewritten (read_history text).fault text buffer w.number bytes w.length
  history-back w bytes e b =
      rw (e, b, HistoryReadable, history-answer (leb (length text) (length buffer)) refl, history-bytes)
      (written_back text buffer (leb (length text) (length buffer)) refl)

-- ---- a certificate text of a history text, of which x is the reading; the rows afterwards are those of the views
module _ (history text buffer : List ℕ) (old rows : List (List ℕ)) (x : CertificateRead) (q : x ≡ read_certificate history text) (p : rows ≡ rows_read history text old) (z : x.fault ≡ 0) where
  certificate-readable : (read_certificate history text).fault ≡ 0
  certificate-readable = sym (ap (λ (y : CertificateRead). y.fault) q) ∙ z

  same-history : x.history ≡ (read_history history).history
  same-history = ap (λ (y : CertificateRead). y.history) (q ∙ read_as history text certificate-readable old)

  same-certificate : x.certificate ≡ (read_certificate history text).certificate
  same-certificate = ap (λ (y : CertificateRead). y.certificate) q

  certificate-inside : writable x.history x.certificate rows ≡ true
  certificate-inside =
      rw (
        same-history,
        same-certificate,
        p,
        HistoryTheorems.read-within history (no-fault-history history text certificate-readable),
        read_fits history text certificate-readable old,
      )

  certificate-says : certificate_text (events_in x.history) x.certificate rows ≡ text
  certificate-says = rw (same-history, same-certificate, p) (read-written history text certificate-readable old)

  certificate-answer : (t : Bool) → leb (length text) (length buffer) ≡ t
      → certificate_written x.history x.certificate rows buffer ≡ record { number = cond t 0 18; length = cond t (length text) 0 }
  unfolding certificate_written
  certificate-answer true e = rw (certificate-inside, certificate-says, e)
  certificate-answer false e = rw (certificate-inside, certificate-says, e)

  certificate-bytes : certificate_after x.history x.certificate rows buffer ≡ after text buffer
  unfolding certificate_after
  certificate-bytes = rw (certificate-inside, certificate-says)

  -- the record is written back as the text that was read
  pub certificate-back : (w : Written) (bytes : List ℕ) → w ≡ certificate_written x.history x.certificate rows buffer
      → bytes ≡ certificate_after x.history x.certificate rows buffer
      → Rewritten (read_certificate history text).fault text buffer w.number bytes w.length
  certificate-back w bytes e b =
      rw (e, b, certificate-readable, certificate-answer (leb (length text) (length buffer)) refl, certificate-bytes)
      (written_back text buffer (leb (length text) (length buffer)) refl)
