-- The faulty line that a refusal names lies within its text. Assumes nothing.
use Prim.Native.Nat.{ℕ}
use native.Mathlib.Omega.{arith}
use mathlib.Core.List.{List}
use lib.ListN.{length}
use Rattle.history.specs.declared.record.Event.{Event}
use Rattle.history_reader.specs.Place.{CertificateText}
use Rattle.history_reader.proofs.PlaceLaws.{PartOf, part-nowhere, part-faulty}
use Rattle.certificate_reader.proofs.EachReading.{each-reading}
use Rattle.certificate_reader.specs.ReadCertificate.{Lines, read_lines}

abbrev pub Placed : ℕ → Lines → Type 0
Placed n r = PartOf CertificateText n r.place

-- the faulty line of a text is a part of it
pub placed-text : (es : List Event) (text : List ℕ) → Placed (length text) (read_lines es text)
placed-text es text =
    each-reading (Placed (length text)) (length text) (λ c pasts views. part-nowhere CertificateText (length text))
    (λ fault line at size f l h. part-faulty CertificateText (length text) line at size l h)
    es
    text
    (omega arith)
