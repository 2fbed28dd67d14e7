-- The verdict on two texts, by a check of lists and by what the history text was read as; the history text itself has the line that the
-- verdict carries. `check_text` is the one by `check` and `read_history`: `check-text-is` (KnownAnswers).
use Rattle.std.specs.Prelude.{ℕ, cond, List, replicate, eqb}
use Rattle.std.proofs.Math.Option.{Option}
use Rattle.history.specs.Record.{events_in}
use Rattle.history_reader.specs.ReadHistory.{HistoryRead}
use Rattle.certificate.specs.Record.{no_row}
use Rattle.certificate_reader.specs.ReadCertificate.{CertificateRead, read_lines, history_refused, certificate_read, rows_after}
use Rattle.criteria.specs.History.{History}
use Rattle.criteria.specs.Certificate.{Certificate}
use Rattle.criteria.specs.Check.{Fault}
use Rattle.criteria.specs.Records.{history_of, certificate_of}
use Rattle.checker.specs.CheckText.{Verdict, refused, found_in}

-- What the certificate text was read as, and its lists.
abbrev pub read_from : HistoryRead → List ℕ → CertificateRead
read_from r text =
    cond (eqb r.fault 0) (certificate_read r.history (read_lines (events_in r.history) text)) (history_refused r)

abbrev pub rows_from : HistoryRead → List ℕ → List (List ℕ) → List (List ℕ)
rows_from r text rows = cond (eqb r.fault 0) (rows_after (read_lines (events_in r.history) text) rows) rows

abbrev pub certificate_from : HistoryRead → List ℕ → Certificate
certificate_from r text = certificate_of r.history (read_from r text).certificate (rows_from r text (replicate 64 no_row))

unfoldable pub verdict_from : (History → Certificate → Option Fault) → List ℕ → HistoryRead → List ℕ → Verdict
verdict_from check history r text =
    cond (eqb (read_from r text).fault 0)
    (found_in history r.history.declared (certificate_from r text).criterion (check (history_of r.history) (certificate_from r text)))
    (refused (read_from r text))
