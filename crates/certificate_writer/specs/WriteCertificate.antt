-- Writing a certificate of a history into a lent buffer: the answer, and the buffer afterwards (document 01, "Write").
use Rattle.std.specs.Prelude.{ℕ, Bool, cond, ◌&&◌, List, length, leb}
use Rattle.layout.specs.Fill.{after}
use Rattle.history.specs.declared.record.History.{History}
use Rattle.history.specs.Record.{events_in}
use Rattle.history.specs.Readable.{within}
use Rattle.history_writer.specs.WriteHistory.{Written}
use Rattle.certificate.specs.declared.record.Certificate.{Certificate}
use Rattle.certificate.specs.CertificateText.{certificate_text}
use Rattle.certificate.specs.Readable.{fits}

-- The record and its rows are within the limits that the history sets, and the history is within its own.
abbrev pub writable : History → Certificate → List (List ℕ) → Bool
writable h c rows = within h && fits (events_in h) c rows

-- 9 where no readable text stands for the record or for its history; else 18 where the buffer is too short; else 0 and the length
-- of the text.
unfoldable pub certificate_written : History → Certificate → List (List ℕ) → List ℕ → Written
certificate_written h c rows buf =
    cond (writable h c rows)
    (cond (leb (length (certificate_text (events_in h) c rows)) (length buf))
    (record { number = 0; length = length (certificate_text (events_in h) c rows) })
    (record { number = 18; length = 0 }))
    (record { number = 9; length = 0 })

-- The text in the first bytes and the rest as it was; on a refusal the buffer as it was.
unfoldable pub certificate_after : History → Certificate → List (List ℕ) → List ℕ → List ℕ
certificate_after h c rows buf = cond (writable h c rows) (after (certificate_text (events_in h) c rows) buf) buf
