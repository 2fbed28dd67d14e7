-- The theorems of writing a certificate: what 9 means, and what is read is written back. Assumes nothing.
use Prim.Native.Nat.{ℕ, ◌≤◌}
use native.Mathlib.Omega.{arith}
use mathlib.Core.Path.{◌≡◌, refl, ap}
use mathlib.Core.Bool.{Bool, true, false}
use mathlib.Core.List.{List}
use lib.ListN.{length}
use lib.Dec.{leb}
use borrow.Author.Tests.{le-leb}
use Rattle.layout.specs.Fill.{fill}
use Rattle.layout.proofs.Cases.{by_bool, and_left, and_right, true-and}
use Rattle.layout.proofs.FillLaws.{after-fits}
use Rattle.history.specs.declared.record.History.{History}
use Rattle.history.specs.Record.{events_in}
use Rattle.history.specs.HistoryText.{history_text}
use Rattle.history.specs.Readable as HistoryReadable
use Rattle.history_reader.specs.ReadHistory.{HistoryRead, read_history}
use Rattle.history_reader.specs.Place.{nowhere}
use Rattle.history_theorems.proofs.Theorems as HistoryTheorems
use Rattle.certificate.specs.declared.record.Certificate.{Certificate}
use Rattle.certificate.specs.CertificateText.{certificate_text}
use Rattle.certificate.specs.Readable.{fits}
use Rattle.certificate_reader.specs.ReadCertificate.{CertificateRead, read_certificate, rows_read}
use Rattle.certificate_writer.specs.WriteCertificate.{writable, certificate_written, certificate_after}
use Rattle.certificate_theorems.proofs.Theorems.{events_of, no-fault-history, read-written, read_fits, written_read, written-rows}

-- readable texts stand for a history's record and for a certificate's record with its rows: they are read as these
pub record Stands (h : History) (c : Certificate) (rows : List (List ℕ)) (history text : List ℕ) : Type 0 where
  pub readable : (read_certificate history text).fault ≡ 0
  pub history-is : (read_history history).history ≡ h
  pub certificate-is : (read_certificate history text).certificate ≡ c
  pub rows_are : (old : List (List ℕ)) → rows_read history text old ≡ rows

module _ (h : History) (c : Certificate) (rows : List (List ℕ)) where
  stands-writable : (history text : List ℕ) → Stands h c rows history text → writable h c rows ≡ true
  stands-writable history text s =
      true-and (rw s.history-is at (HistoryTheorems.read-within history (no-fault-history history text s.readable)))
      (rw (s.history-is, s.certificate-is, s.rows_are rows) at (read_fits history text s.readable rows))

  module _ (w : writable h c rows ≡ true) where
    inside-limits : HistoryReadable.within h ≡ true
    inside-limits = and_left (HistoryReadable.within h) (fits (events_in h) c rows) w

    history-back : read_history (history_text h) ≡ record { fault = 0; place = nowhere; history = h }
    history-back = HistoryTheorems.written_read h inside-limits

    same-history : (read_history (history_text h)).history ≡ h
    same-history = ap (λ (x : HistoryRead). x.history) history-back

    no-fault : (read_history (history_text h)).fault ≡ 0
    no-fault = ap (λ (x : HistoryRead). x.fault) history-back

    fits_read : fits (events_of (history_text h)) c rows ≡ true
    fits_read = rw same-history (and_right (HistoryReadable.within h) (fits (events_in h) c rows) w)

    writable-stands : Stands h c rows (history_text h) (certificate_text (events_of (history_text h)) c rows)
    writable-stands =
        let r = written_read (history_text h) no-fault c rows fits_read in
        record {
          readable = ap (λ (x : CertificateRead). x.fault) r;
          history-is = same-history;
          certificate-is = ap (λ (x : CertificateRead). x.certificate) r;
          rows_are = written-rows (history_text h) no-fault c rows fits_read;
        }

  module _ (buf : List ℕ) where
    outside : writable h c rows ≡ false → (certificate_written h c rows buf).number ≡ 9
    unfolding certificate_written
    outside w = rw w

    -- within its limits a record is refused with 18 at most
    inside : writable h c rows ≡ true → (t : Bool) → leb (length (certificate_text (events_in h) c rows)) (length buf) ≡ t
        → (certificate_written h c rows buf).number ≡ 9 → ⊥
    unfolding certificate_written
    inside w true e n = let z : ◌≡◌ {A = ℕ} 0 9 = rw (w, e) at n in absurd (omega arith)
    inside w false e n = let z : ◌≡◌ {A = ℕ} 18 9 = rw (w, e) at n in absurd (omega arith)

    -- 9 exactly when no readable text stands for the record or for its history
    pub nine-none : (certificate_written h c rows buf).number ≡ 9 → (history text : List ℕ) → Stands h c rows history text → ⊥
    nine-none n history text s =
        inside (stands-writable history text s) (leb (length (certificate_text (events_in h) c rows)) (length buf)) refl n

    pub none-nine : ((history text : List ℕ) → Stands h c rows history text → ⊥) → (certificate_written h c rows buf).number ≡ 9
    none-nine none =
        by_bool (writable h c rows)
        (λ w. absurd (none (history_text h) (certificate_text (events_of (history_text h)) c rows) (writable-stands w)))
        (λ w. outside w)

-- what was read is written back, the same bytes, into every buffer that has room
module _ (history text buf : List ℕ) (rows : List (List ℕ)) (z : (read_certificate history text).fault ≡ 0) (room : length text ≤ length buf) where
  may_write : writable (read_history history).history (read_certificate history text).certificate (rows_read history text rows) ≡ true
  may_write = true-and (HistoryTheorems.read-within history (no-fault-history history text z)) (read_fits history text z rows)

  pub back-answer : certificate_written (read_history history).history (read_certificate history text).certificate (rows_read history text rows) buf
      ≡ record { number = 0; length = length text }
  unfolding certificate_written
  back-answer = rw (may_write, read-written history text z rows, le-leb (length text) (length buf) room)

  pub back-bytes : certificate_after (read_history history).history (read_certificate history text).certificate (rows_read history text rows) buf ≡ fill text buf
  unfolding certificate_after
  back-bytes = rw (may_write, read-written history text z rows) (after-fits text buf room)
