-- Laws of reading the two texts: the answer and the rows in each case, and where the faulty line lies. Assumes nothing.
use Prim.Native.Nat.{ℕ, ◌≤◌}
use native.Mathlib.Omega.{arith}
use mathlib.Core.Path.{◌≡◌, sym, ap, ◌∙◌}
use mathlib.Core.Bool.{cond}
use mathlib.Core.List.{List}
use lib.ListN.{length}
use lib.Dec.{eqb}
use borrow.Author.Tests.{eq-eqb, ne_eqb}
use Rattle.std.specs.Prelude.{Ok, Err}
use Rattle.layout.proofs.Cases.{by-eq}
use Rattle.history.specs.Record.{pad, events_in}
use Rattle.history.specs.Faults.{fault_number}
use Rattle.history.specs.declared.record.History.{History}
use Rattle.history_reader.specs.declared.read.Refusal.{Refusal}
use Rattle.history_reader.specs.Place.{Place, nowhere, text_named}
use Rattle.history_reader.specs.ReadHistory.{HistoryRead, history_read, read_history}
use Rattle.history_reader.proofs.PlaceLaws.{placed-history}
use Rattle.history_reader.proofs.ReadLaws.{fault-some}
use Rattle.certificate.specs.declared.record.Certificate.{Certificate}
use Rattle.certificate.specs.Record.{certificate_of}
use Rattle.certificate_reader.specs.declared.read.Unread.TheVariants.{NoHistory, NoCertificate}
use Rattle.certificate_reader.specs.ReadCertificate.{Lines, CertificateRead, read_lines, history_refused, certificate_read, texts_read, read_certificate, rows_after, rows_read}
use Rattle.certificate_reader.specs.Steps.Lines.{refused, AllDone}
use Rattle.certificate_reader.proofs.PlaceLaws.{placed-text}

module _ (history text : List ℕ) (rows : List (List ℕ)) where
  -- x is the reading of the history text
  module _ (x : HistoryRead) (q : x ≡ read_history history) where
    answer-is : read_certificate history text ≡ cond (eqb x.fault 0) (certificate_read x.history (read_lines (events_in x.history) text)) (history_refused x)
    unfolding read_certificate
    answer-is =
        ap (λ (h : HistoryRead). cond (eqb h.fault 0) (certificate_read h.history (read_lines (events_in h.history) text)) (history_refused h)) (sym q)

    rows_is : rows_read history text rows ≡ cond (eqb x.fault 0) (rows_after (read_lines (events_in x.history) text) rows) rows
    unfolding rows_read
    rows_is = ap (λ (h : HistoryRead). cond (eqb h.fault 0) (rows_after (read_lines (events_in h.history) text) rows) rows) (sym q)

  -- the history is refused
  module _ (r : Refusal) (q : history_read (Err r) ≡ read_history history) where
    pub history-refused-answer : texts_read (Err (NoHistory r)) ≡ read_certificate history text
    history-refused-answer = sym (answer-is (history_read (Err r)) q ∙ rw (ne_eqb (fault_number r.fault) 0 (fault-some r.fault)))

    pub history-refused-rows : rows ≡ rows_read history text rows
    history-refused-rows = sym (rows_is (history_read (Err r)) q ∙ rw (ne_eqb (fault_number r.fault) 0 (fault-some r.fault)))

  -- the history is read
  module _ (h : History) (q : history_read (Ok h) ≡ read_history history) where
    -- and the certificate is refused
    module _ (r : Refusal) (w : read_lines (events_in h) text ≡ refused r) where
      pub lines-refused-answer : texts_read (Err (NoCertificate h r)) ≡ read_certificate history text
      unfolding certificate_of pad
      lines-refused-answer = sym (answer-is (history_read (Ok h)) q ∙ ap (λ (l : Lines). certificate_read h l) w)

      pub lines-refused-rows : rows ≡ rows_read history text rows
      lines-refused-rows =
          sym (rows_is (history_read (Ok h)) q ∙ ap (λ (l : Lines). rows_after l rows) w
          ∙ rw (ne_eqb (fault_number r.fault) 0 (fault-some r.fault)))

    -- and the certificate too
    module _ (c : Certificate) (new : List (List ℕ)) (d : AllDone (read_lines (events_in h) text) new c) where
      pub both-answer : texts_read (Ok (record { history = h; certificate = c })) ≡ read_certificate history text
      both-answer =
          ap {B = CertificateRead} (λ (c : Certificate). record { fault = 0; place = nowhere; history = h; certificate = c }) d.is
          ∙ sym (answer-is (history_read (Ok h)) q ∙ ap (λ (l : Lines). certificate_read h l) d.says)

      pub both-rows : new ≡ rows_read history text rows
      both-rows = d.rows_are ∙ sym (rows_is (history_read (Ok h)) q ∙ ap (λ (l : Lines). rows_after l rows) d.says)

-- ---- where the faulty line lies: within the text that it is in
pub record PlacedIn (history text : List ℕ) (p : Place) : Type 0 where
  pub from : p.start ≤ p.end
  pub to : p.end ≤ length (text_named p.text history text)

pub placed-two : (history text : List ℕ) → PlacedIn history text (read_certificate history text).place
unfolding read_certificate
placed-two history text =
    let p = placed-text (events_in (read_history history).history) text in
    let k = placed-history history in
    by-eq (read_history history).fault 0
    (λ z. rw (eq-eqb (read_history history).fault 0 z) (record { from = p.from; to = p.within history text (omega arith) }))
    (λ z. rw (ne_eqb (read_history history).fault 0 z) (record { from = k.from; to = k.within history text (omega arith) }))
