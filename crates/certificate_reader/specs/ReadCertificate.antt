-- Reading a certificate text, given its history text: its record and rows, or the first faulty line and the first fault on it.
use Rattle.std.specs.Prelude.{ℕ, ◌+◌, Bool, true, false, cond, List, [], ◌∷◌, ◌++◌, length, get_or, eqb, leb, Result, Ok, Err}
use Rattle.layout.specs.Split.{split}
use Rattle.layout.specs.Word.{same, past_heading, view_heading}
use Rattle.history.specs.declared.record.Event.{Event}
use Rattle.history.specs.declared.record.History.{History}
use Rattle.history.specs.Record.{events_in, no_history}
use Rattle.history.specs.Faults.{fault_number}
use Rattle.history_reader.specs.declared.read.Refusal.{Refusal}
use Rattle.history_reader.specs.Place.{Place, CertificateText, nowhere, line_place, faulty_place}
use Rattle.history_reader.specs.ReadHistory.{HistoryRead, read_history}
use Rattle.certificate.specs.declared.record.Certificate.{Certificate}
use Rattle.certificate.specs.declared.record.Criterion.{Criterion}
use Rattle.certificate.specs.declared.record.Criterion.TheVariants.{Pram}
use Rattle.certificate.specs.Record.{certificate_of, no_certificate, rows_of}
use Rattle.certificate.specs.Criteria.{has_pasts, count_from, view_numbers, criterion_of}
use Rattle.certificate.specs.Faults.{criterion_line, list_fault, list_said}
use Rattle.certificate_reader.specs.declared.read.Texts.{Texts}
use Rattle.certificate_reader.specs.declared.read.Unread.{Unread}
use Rattle.certificate_reader.specs.declared.read.Unread.TheVariants.{NoHistory, NoCertificate}

-- What lines are as a certificate: fault 0, the criterion, the pasts and the views; or the fault, and the place of the faulty line.
pub record Lines : Type 0 where
  pub fault : ℕ
  pub place : Place
  pub criterion : Criterion
  pub pasts : List (List ℕ)
  pub views : List (List ℕ)

-- A refusal. The line begins at the place `at` and has `size` bytes without its line feed.
abbrev pub refusal : ℕ → ℕ → ℕ → ℕ → Lines
refusal fault line at size =
    record { fault = fault; place = faulty_place CertificateText line at size; criterion = Pram; pasts = []; views = [] }

abbrev pub accepted : Criterion → List (List ℕ) → List (List ℕ) → Lines
accepted c pasts views =
    record { fault = 0; place = nowhere; criterion = c; pasts = pasts; views = views }

-- The parts of a text between its line feeds are its lines and, last, what follows the last line feed. So a last part that is
-- not empty is a line without its line feed, and an empty one is where a missing line would stand. Each function below is about
-- the lines from number `line` on, which begins at the place `at`.

-- No line is left: one too many is faulty.
unfoldable pub end_from : Lines → ℕ → ℕ → List (List ℕ) → Lines
end_from r line at [] = refusal 2 line at 0
end_from r line at (p ∷ []) = cond (eqb (length p) 0) r (refusal 2 line at (length p))
end_from r line at (p ∷ q ∷ ps) = refusal 2 line at (length p)

-- A heading, and then what `next` says.
unfoldable pub heading_from : List ℕ → (ℕ → ℕ → List (List ℕ) → Lines) → ℕ → ℕ → List (List ℕ) → Lines
heading_from heading next line at [] = refusal 2 line at 0
heading_from heading next line at (p ∷ []) = refusal 2 line at (length p)
heading_from heading next line at (p ∷ q ∷ ps) =
    cond (same p heading) (next (line + 1) (at + length p + 1) (q ∷ ps)) (refusal 2 line at (length p))

-- A line for each of the numbers, of a past or of a view, in a history with `count` events; the lists ls are read. Then what
-- `next` says of all lists.
unfoldable pub lists_from : Bool → ℕ → (List (List ℕ) → ℕ → ℕ → List (List ℕ) → Lines) → List ℕ → List (List ℕ) → ℕ → ℕ → List (List ℕ) → Lines
lists_from past count next [] ls line at ps = next ls line at ps
lists_from past count next (n ∷ ns) ls line at [] = refusal 2 line at 0
lists_from past count next (n ∷ ns) ls line at (p ∷ []) = refusal 2 line at (length p)
lists_from past count next (n ∷ ns) ls line at (p ∷ q ∷ ps) =
    cond (eqb (list_fault past count n p) 0)
    (lists_from past count next ns (ls ++ list_said p ∷ []) (line + 1) (at + length p + 1) (q ∷ ps))
    (refusal (list_fault past count n p) line at (length p))

-- The views with these numbers, after the pasts.
unfoldable pub views_from : Criterion → ℕ → List ℕ → List (List ℕ) → ℕ → ℕ → List (List ℕ) → Lines
views_from c count numbers pasts =
    heading_from view_heading (lists_from false count (λ (views : List (List ℕ)). end_from (accepted c pasts views)) numbers [])

-- The pasts of all events, and then the views.
unfoldable pub pasts_from : Criterion → ℕ → List ℕ → ℕ → ℕ → List (List ℕ) → Lines
pasts_from c count numbers = heading_from past_heading (lists_from true count (views_from c count numbers) (count_from 0 count) [])

-- All lines after the first.
unfoldable pub body_from : Criterion → List Event → ℕ → ℕ → List (List ℕ) → Lines
body_from c es line at ps =
    cond (has_pasts c) (pasts_from c (length es) (view_numbers c es) line at ps) (views_from c (length es) (view_numbers c es) [] line at ps)

-- All lines, of which the first names the criterion.
unfoldable pub lines_from : List Event → List (List ℕ) → Lines
lines_from es [] = refusal 2 1 0 0
lines_from es (p ∷ []) = refusal 2 1 0 (length p)
lines_from es (p ∷ q ∷ ps) =
    cond (criterion_line p) (body_from (criterion_of (get_or (split 32 p) 1 [])) es 2 (length p + 1) (q ∷ ps)) (refusal 2 1 0 (length p))

-- What a text is as a certificate of a history with these events. One that is longer than 32,768 bytes is refused first.
unfoldable pub read_lines : List Event → List ℕ → Lines
read_lines es text = cond (leb (length text) 32768) (lines_from es (split 10 text)) (refusal 1 0 0 0)

-- ---- the two texts
-- What two texts are: the two records and fault 0; or the first fault and the place of its line.
pub record CertificateRead : Type 0 where
  pub fault : ℕ
  pub place : Place
  pub history : History
  pub certificate : Certificate

-- The history's refusal; or what the certificate text is, with the history's record where it is one.
abbrev pub history_refused : HistoryRead → CertificateRead
history_refused h =
    record { fault = h.fault; place = h.place; history = h.history; certificate = no_certificate }

abbrev pub certificate_read : History → Lines → CertificateRead
certificate_read h r =
    record { fault = r.fault; place = r.place; history = h; certificate = certificate_of r.criterion r.pasts r.views }

-- The history's refusals come first.
unfoldable pub read_certificate : List ℕ → List ℕ → CertificateRead
read_certificate history text =
    cond (eqb (read_history history).fault 0)
    (certificate_read (read_history history).history (read_lines (events_in (read_history history).history) text))
    (history_refused (read_history history))

-- The code's result as one of these.
abbrev pub texts_read : Result Texts Unread → CertificateRead
texts_read (Ok t) = record { fault = 0; place = nowhere; history = t.history; certificate = t.certificate }
texts_read (Err (NoHistory r)) =
    record { fault = fault_number r.fault; place = line_place r.place; history = no_history; certificate = no_certificate }
texts_read (Err (NoCertificate h r)) =
    record { fault = fault_number r.fault; place = line_place r.place; history = h; certificate = no_certificate }

abbrev pub refusal_in : Unread → Refusal
refusal_in (NoHistory r) = r
refusal_in (NoCertificate h r) = r

-- The rows afterwards: those of the views where both texts are read, and else as they were.
abbrev pub rows_after : Lines → List (List ℕ) → List (List ℕ)
rows_after r rows = cond (eqb r.fault 0) (rows_of r.views) rows

unfoldable pub rows_read : List ℕ → List ℕ → List (List ℕ) → List (List ℕ)
rows_read history text rows =
    cond (eqb (read_history history).fault 0) (rows_after (read_lines (events_in (read_history history).history) text) rows) rows
