-- A certificate that passed the check, and the record of one made of it.
use Rattle.std.specs.Prelude.{ℕ, ◌≡◌, true, List}
use Rattle.std.proofs.Math.Option.{Option, none, some}
use Rattle.history.specs.declared.record.History.{History}
use Rattle.history.specs.Record.{events_in}
use Rattle.history.specs.Readable.{within}
use Rattle.certificate.specs.declared.record.Certificate as WrittenCertificate
use Rattle.certificate.specs.Record as TextRecord
use Rattle.certificate.specs.Readable.{fits}
use Rattle.criteria.specs.Certificate.{Certificate}
use Rattle.criteria.specs.Check.{check}
use Rattle.criteria.specs.Weaken.{weakened}
use Rattle.criteria.specs.Records.{history_of, certificate_of}
use Rattle.certificate.specs.declared.record.Criterion.{Criterion}
use Rattle.weakened_records.specs.declared.records.ViewedRecord.{ViewedRecord}

-- A record and its rows within their limits, of which the check finds nothing.
pub record Passed (h : History) (c : WrittenCertificate.Certificate) (rows : List (List ℕ)) : Type 0 where
  pub history : within h ≡ true
  pub certificate : fits (events_in h) c rows ≡ true
  pub passes : check (history_of h) (certificate_of h c rows) ≡ none

-- A record and rows are those of the lists, where there are any.
abbrev pub IsRecordOf : Option Certificate → WrittenCertificate.Certificate → List (List ℕ) → Type 0
IsRecordOf none c rows = Unit {0}
IsRecordOf (some d) c rows =
    (c ≡ TextRecord.certificate_of d.criterion d.pasts d.views) × (rows ≡ TextRecord.rows_of d.views)

-- A record is that of the criterion wanted, made of another record of the history.
abbrev pub IsWeakened : Criterion → History → ViewedRecord → ViewedRecord → Type 0
IsWeakened wanted h of r = IsRecordOf (weakened wanted (history_of h) (certificate_of h of.certificate of.views)) r.certificate r.views
