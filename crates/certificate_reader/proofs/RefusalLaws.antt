-- A refused reading of two texts has the number of a fault and a place in one of the two. Assumes nothing.
use Prim.Native.Nat.{ℕ}
use native.Mathlib.Omega.{arith}
use mathlib.Core.List.{List}
use lib.ListN.{length}
use borrow.Author.Tests.{eq-eqb, ne_eqb}
use Rattle.layout.proofs.Cases.{by-eq}
use Rattle.history.specs.declared.record.Event.{Event}
use Rattle.history.specs.Record.{events_in}
use Rattle.history_reader.specs.Place.{Text, HistoryText, CertificateText}
use Rattle.history_reader.specs.ReadHistory.{read_history}
use Rattle.history_reader.proofs.RefusalLaws.{Refuses, refuses-nowhere, refuses-faulty, refuses-history}
use Rattle.certificate_reader.proofs.EachReading.{each-reading}
use Rattle.certificate_reader.specs.ReadCertificate.{Lines, read_lines, read_certificate}

-- ---- of a certificate text that was read
refuses-text : (P : Text → Type 0) → P CertificateText → (es : List Event) (text : List ℕ) → Refuses P (read_lines es text).fault (read_lines es text).place
refuses-text P h es text =
    each-reading (λ (r : Lines). Refuses P r.fault r.place) (length text) (λ c pasts views. refuses-nowhere P)
    (λ fault line at size f i j. refuses-faulty h fault line at size f)
    es
    text
    (omega arith)

-- ---- of the two texts
pub refuses-two : (P : Text → Type 0) → P HistoryText → P CertificateText → (history text : List ℕ)
    → Refuses P (read_certificate history text).fault (read_certificate history text).place
unfolding read_certificate
refuses-two P h c history text =
    by-eq (read_history history).fault 0
    (λ z. rw (eq-eqb (read_history history).fault 0 z) (refuses-text P c (events_in (read_history history).history) text))
    (λ z. rw (ne_eqb (read_history history).fault 0 z) (refuses-history P h history))
