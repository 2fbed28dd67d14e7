-- The check of two texts (document 01, "Check"): history's reading refusals, then the certificate's, then 11 to 16 with 20 after 15
-- (document 02, T-06), then 0.
use Rattle.std.specs.Prelude.{ℕ, ◌≡◌, cond, List, replicate, eqb}
use Rattle.std.proofs.Math.Option.{Option, none, some}
use Rattle.history_reader.specs.Place.{Place, nowhere, event_place, part_at}
use Rattle.history_reader.specs.ReadHistory.{read_history}
use Rattle.certificate.specs.declared.record.Criterion.{Criterion}
use Rattle.certificate.specs.Record.{no_row}
use Rattle.certificate_reader.specs.ReadCertificate.{CertificateRead, read_certificate, rows_read}
use Rattle.criteria.specs.History.{History}
use Rattle.criteria.specs.Certificate.{Certificate}
use Rattle.criteria.specs.Check.{Fault, Answer, answer_of, check}
use Rattle.criteria.specs.Records.{history_of, certificate_of}

-- An answer with all that it carries. "A reading refusal carries the text, the line number from 1, and the faulty line as part of
-- whichever text it is in": a place. "11 to 13 carry the event, 14 and 15 the view, 16 both." Document 02: "16 carries the line of its
-- event, as part of the history text, and 11 to 13 carry theirs"; "20 carries the view". The criterion is the one that the certificate
-- names; a reading refusal has none.
pub record Verdict : Type 0 where
  pub number : ℕ
  pub criterion : Option Criterion
  pub place : Place
  pub view : Option ℕ
  pub event : Option ℕ

abbrev pub refused_at : ℕ → Place → Verdict
refused_at number p = record { number = number; criterion = none; place = p; view = none; event = none }

abbrev pub refused : CertificateRead → Verdict
refused r = refused_at r.fault r.place

abbrev pub checked : Place → Criterion → Answer → Verdict
checked p c a =
    record { number = a.number; criterion = some c; place = p; view = a.view; event = a.event }

-- The line of the event that an answer carries, in a history text with so many objects; none where it carries no event.
abbrev pub place_of : List ℕ → ℕ → Option ℕ → Place
place_of history declared none = nowhere
place_of history declared (some e) = event_place history declared e

-- What was found of texts that were read, with that line.
abbrev pub found_in : List ℕ → ℕ → Criterion → Option Fault → Verdict
found_in history declared c x = checked (place_of history declared (answer_of x).event) c (answer_of x)

-- The lists of the history and of the certificate that two texts are read as.
unfoldable pub history_read : List ℕ → History
history_read history = history_of (read_history history).history

abbrev pub rows_of : List ℕ → List ℕ → List (List ℕ)
rows_of history text = rows_read history text (replicate 64 no_row)

unfoldable pub certificate_read : List ℕ → List ℕ → Certificate
certificate_read history text =
    certificate_of (read_history history).history (read_certificate history text).certificate (rows_of history text)

-- The check of a certificate text for a history text.
unfoldable pub check_text : List ℕ → List ℕ → Verdict
check_text history text =
    cond (eqb (read_certificate history text).fault 0)
    (found_in history (read_history history).history.declared (certificate_read history text).criterion
    (check (history_read history) (certificate_read history text)))
    (refused (read_certificate history text))

-- The line that the answer carries, as part of whichever text it is in; empty where it carries none.
unfoldable pub carried_line : List ℕ → List ℕ → List ℕ
carried_line history text = part_at (check_text history text).place history text

-- "A certificate text is accepted for a history text when the check of the two answers 0."
unfoldable pub Accepted : List ℕ → List ℕ → Type 0
Accepted history text = (check_text history text).number ≡ 0

-- The criterion that a certificate text names.
unfoldable pub Names : List ℕ → List ℕ → Criterion → Type 0
Names history text c = (check_text history text).criterion ≡ some c
