-- The theorems of the certificate text: what is readable, and that reading and writing are inverse. Assumes nothing.
use Prim.Native.Nat.{ℕ, ◌≤◌}
use native.Mathlib.Omega.{arith}
use mathlib.Core.Path.{◌≡◌, sym, ap, ap₂, ◌∙◌}
use mathlib.Core.Bool.{true}
use mathlib.Core.List.{List}
use lib.ListN.{length}
use borrow.Author.Tests.{eq-eqb, ne_eqb}
use Rattle.layout.proofs.Cases.{by-eq}
use Rattle.history.specs.declared.record.Event.{Event}
use Rattle.history.specs.Record.{events_in}
use Rattle.history_reader.specs.Place.{nowhere}
use Rattle.history_reader.specs.ReadHistory.{read_history}
use Rattle.history_theorems.proofs.Guarantees.{read-sound}
use Rattle.certificate.specs.declared.record.Certificate.{Certificate}
use Rattle.certificate.specs.Record.{certificate_of, rows_of, pasts_in, views_in}
use Rattle.certificate.specs.Criteria.{view_numbers, past_count}
use Rattle.certificate.specs.CertificateText.{text_of, certificate_text}
use Rattle.certificate.specs.Readable.{fits, Readable}
use Rattle.certificate.proofs.FitsLaws.{Fits, fits-facts, facts-fit, pasts-in, views-in}
use Rattle.certificate_reader.specs.ReadCertificate.{CertificateRead, Lines, accepted, read_lines, certificate_read, read_certificate, rows_after, rows_read}
use Rattle.certificate_theorems.proofs.TextRound.{text-read, Reads, read-text}
use Rattle.certificate_theorems.proofs.TextLength.{text-short}

-- ---- a certificate text of a history with the events es
module _ (es : List Event) (few : length es ≤ 64) where
  -- every record and its rows within their limits have a text of at most 32,768 bytes
  pub fits-short : (c : Certificate) (rows : List (List ℕ)) → fits es c rows ≡ true → length (certificate_text es c rows) ≤ 32768
  unfolding certificate_text
  fits-short c rows w =
      let f = fits-facts es c rows few w in
      text-short c.criterion es (pasts_in (past_count c.criterion es) c) (views_in (length (view_numbers c.criterion es)) c rows) few
      f.past-count f.view-count f.good-pasts f.good-views

  -- the text of a record and its rows is read as their lists
  pub written-lines : (c : Certificate) (rows : List (List ℕ)) → fits es c rows ≡ true
      → read_lines es (certificate_text es c rows)
      ≡ accepted c.criterion (pasts_in (past_count c.criterion es) c) (views_in (length (view_numbers c.criterion es)) c rows)
  unfolding certificate_text
  written-lines c rows w =
      let f = fits-facts es c rows few w in
      text-read c.criterion es (pasts_in (past_count c.criterion es) c) (views_in (length (view_numbers c.criterion es)) c rows)
      f.past-count f.view-count f.good-pasts f.good-views (fits-short c rows w)

  -- the record and the rows of a text that is read are within their limits, and their text is that text
  module _ {text : List ℕ} (r : Reads es text) where
    pub reads_fit : fits es (certificate_of r.criterion r.pasts r.views) (rows_of r.views) ≡ true
    reads_fit =
        facts-fit r.criterion es r.pasts r.views few r.past-count r.view-count r.good-pasts r.good-views

    same-pasts : pasts_in (past_count r.criterion es) (certificate_of r.criterion r.pasts r.views) ≡ r.pasts
    same-pasts =
        ap (λ (k : ℕ). pasts_in k (certificate_of r.criterion r.pasts r.views)) (sym r.past-count)
        ∙ pasts-in r.criterion r.pasts r.views

    same-views : views_in (length (view_numbers r.criterion es)) (certificate_of r.criterion r.pasts r.views) (rows_of r.views) ≡ r.views
    same-views =
        ap (λ (k : ℕ). views_in k (certificate_of r.criterion r.pasts r.views) (rows_of r.views)) (sym r.view-count)
        ∙ views-in r.criterion r.pasts r.views

    pub reads-text : certificate_text es (certificate_of r.criterion r.pasts r.views) (rows_of r.views) ≡ text
    unfolding certificate_text certificate_of
    reads-text =
        ap₂ (λ (p v : List (List ℕ)). text_of r.criterion (view_numbers r.criterion es) p v) same-pasts same-views ∙ r.says

  -- lines have no fault by the rules exactly when the text is readable
  pub lines-readable : (text : List ℕ) → (read_lines es text).fault ≡ 0 → Readable es text
  lines-readable text z =
      let r = read-text es text z in
      record {
        certificate = certificate_of r.criterion r.pasts r.views;
        rows = rows_of r.views;
        within = reads_fit r;
        says = reads-text r;
        short = r.short;
      }

  pub readable-lines : (text : List ℕ) → Readable es text → (read_lines es text).fault ≡ 0
  readable-lines text r =
      ap (λ (t : List ℕ). (read_lines es t).fault) (sym r.says)
      ∙ ap (λ (x : Lines). x.fault) (written-lines r.certificate r.rows r.within)

-- ---- the two texts
-- the events of a history that is read
abbrev pub events_of : List ℕ → List Event
events_of history = events_in (read_history history).history

pub few-events : (history : List ℕ) → (read_history history).fault ≡ 0 → length (events_of history) ≤ 64
few-events history z = let s = read-sound history z in omega (arith, s.events, s.count)

module _ (history text : List ℕ) where
  module _ (z : (read_history history).fault ≡ 0) where
    history-read : read_certificate history text ≡ certificate_read (read_history history).history (read_lines (events_of history) text)
    unfolding read_certificate
    history-read = rw (eq-eqb (read_history history).fault 0 z)

    rows-read : (rows : List (List ℕ)) → rows_read history text rows ≡ rows_after (read_lines (events_of history) text) rows
    unfolding rows_read
    rows-read rows = rw (eq-eqb (read_history history).fault 0 z)

    lines-fault : (read_certificate history text).fault ≡ (read_lines (events_of history) text).fault
    lines-fault = ap (λ (x : CertificateRead). x.fault) history-read

  history-bad : ((read_history history).fault ≡ 0 → ⊥) → (read_certificate history text).fault ≡ (read_history history).fault
  unfolding read_certificate
  history-bad n = rw (ne_eqb (read_history history).fault 0 n)

  -- what has no fault
  pub no-fault-history : (read_certificate history text).fault ≡ 0 → (read_history history).fault ≡ 0
  no-fault-history z = by-eq (read_history history).fault 0 (λ e. e) (λ n. sym (history-bad n) ∙ z)

  pub no-fault-lines : (read_certificate history text).fault ≡ 0 → (read_lines (events_of history) text).fault ≡ 0
  no-fault-lines z = sym (lines-fault (no-fault-history z)) ∙ z

  -- two texts have no fault by the rules exactly when both are readable
  pub no-fault-readable : (read_certificate history text).fault ≡ 0 → Readable (events_of history) text
  no-fault-readable z =
      lines-readable (events_of history) (few-events history (no-fault-history z)) text (no-fault-lines z)

  pub readable-no-fault : (read_history history).fault ≡ 0 → Readable (events_of history) text → (read_certificate history text).fault ≡ 0
  readable-no-fault z r = lines-fault z ∙ readable-lines (events_of history) (few-events history z) text r

  -- what was read: the record and the rows of the lists
  module _ (z : (read_certificate history text).fault ≡ 0) (rows : List (List ℕ)) where
    abbrev pub reads : Reads (events_of history) text
    reads = read-text (events_of history) text (no-fault-lines z)

    pub read_as : read_certificate history text
        ≡ record {
          fault = 0;
          place = nowhere;
          history = (read_history history).history;
          certificate = certificate_of reads.criterion reads.pasts reads.views;
        }
    read_as =
        history-read (no-fault-history z)
        ∙ ap (certificate_read (read_history history).history) (read-text (events_of history) text (no-fault-lines z)).reads

    pub rows_as : rows_read history text rows ≡ rows_of reads.views
    rows_as =
        rows-read (no-fault-history z) rows
        ∙ ap (λ (x : Lines). rows_after x rows) (read-text (events_of history) text (no-fault-lines z)).reads

    certificate-as : (read_certificate history text).certificate ≡ certificate_of reads.criterion reads.pasts reads.views
    certificate-as = ap (λ (x : CertificateRead). x.certificate) read_as

    -- read and written back: the same bytes
    pub read-written : certificate_text (events_of history) (read_certificate history text).certificate (rows_read history text rows) ≡ text
    read-written =
        ap₂ (certificate_text (events_of history)) certificate-as rows_as
        ∙ reads-text (events_of history) (few-events history (no-fault-history z)) (read-text (events_of history) text (no-fault-lines z))

    -- a record that was read is within its limits, so one that is not is that of no readable text (answer 9)
    pub read_fits : fits (events_of history) (read_certificate history text).certificate (rows_read history text rows) ≡ true
    read_fits =
        ap₂ (fits (events_of history)) certificate-as rows_as
        ∙ reads_fit (events_of history) (few-events history (no-fault-history z)) (read-text (events_of history) text (no-fault-lines z))

-- written and read back: the same record and the same rows
module _ (history : List ℕ) (z : (read_history history).fault ≡ 0) (c : Certificate) (rows : List (List ℕ)) (w : fits (events_of history) c rows ≡ true) where
  facts : Fits (events_of history) c rows
  facts = fits-facts (events_of history) c rows (few-events history z) w

  back-lines : read_lines (events_of history) (certificate_text (events_of history) c rows)
      ≡ accepted c.criterion (pasts_in (past_count c.criterion (events_of history)) c)
      (views_in (length (view_numbers c.criterion (events_of history))) c rows)
  back-lines = written-lines (events_of history) (few-events history z) c rows w

  pub written_read : read_certificate history (certificate_text (events_of history) c rows)
      ≡ record { fault = 0; place = nowhere; history = (read_history history).history; certificate = c }
  written_read =
      history-read history (certificate_text (events_of history) c rows) z
      ∙ ap (certificate_read (read_history history).history) back-lines
      ∙ ap (λ (x : Certificate). record { fault = 0; place = nowhere; history = (read_history history).history; certificate = x })
      (sym facts.record_is)

  pub written-rows : (old : List (List ℕ)) → rows_read history (certificate_text (events_of history) c rows) old ≡ rows
  written-rows old =
      rows-read history (certificate_text (events_of history) c rows) z old
      ∙ ap (λ (x : Lines). rows_after x old) back-lines
      ∙ sym facts.rows_are
