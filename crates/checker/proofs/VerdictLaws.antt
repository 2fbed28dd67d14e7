-- What the check answers of two texts is the verdict of the definitions. Assumes nothing.
use Rattle.std.specs.Prelude.{Result, Ok, Err}
use Rattle.std.specs.Result.{result_err}
use Prim.Native.Nat.{ℕ, ◌≤◌}
use native.Mathlib.Omega.{arith}
use mathlib.Core.Path.{◌≡◌, refl, sym, ap, ap₂, ◌∙◌, subst}
use mathlib.Core.Bool.{true}
use mathlib.Core.List.{List, []}
use mathlib.Core.Option.{Option, none, some}
use lib.ListN.{length, take, replicate}
use lib.Seq.{take-nil, drop-nil}
use Rattle.layout.proofs.Cases.{by-eq}
use Rattle.history.specs.declared.record.History.{History}
use Rattle.history.specs.Record.{events_in}
use Rattle.history.specs.Readable.{within}
use Rattle.history.specs.Faults.{fault_number}
use Rattle.history.proofs.WithinLaws.{within-limits}
use Rattle.history_reader.specs.declared.place.Place as code-place
use Rattle.history_reader.specs.Place.{Place, nowhere, text_in, line_place, bytes_at, text_named, part_at}
use Rattle.history_reader.specs.ReadHistory.{read_history}
use Rattle.history_reader.proofs.EventPlaceLaws.{few-declared, few-counted, event-within}
use Rattle.history_reader.proofs.ReadLaws.{fault-some}
use Rattle.history_theorems.proofs.Theorems.{no-fault-readable, read-within}
use Rattle.certificate.specs.declared.record.Certificate.{Certificate}
use Rattle.certificate.specs.Record.{no_row}
use Rattle.certificate.specs.Readable.{fits}
use Rattle.certificate_reader.specs.declared.read.Texts.{Texts}
use Rattle.certificate_reader.specs.declared.read.Unread.{Unread}
use Rattle.certificate_reader.specs.declared.read.Unread.TheVariants.{NoHistory, NoCertificate}
use Rattle.certificate_reader.specs.ReadCertificate.{CertificateRead, texts_read, refusal_in, read_certificate, rows_read}
use Rattle.certificate_reader.proofs.TwoTextLaws.{PlacedIn, placed-two}
use Rattle.certificate_theorems.proofs.Theorems.{no-fault-history, read_as, read_fits}
use Rattle.certificate_theorems.proofs.Places.{Small, small-two}
use Rattle.criteria.specs.Check.{answer_of, check}
use Rattle.criteria.specs.History.{size}
use Rattle.criteria.specs.Records.{history_of, certificate_of}
use Rattle.criteria.proofs.RecordLaws.{size_is}
use Rattle.faults.specs.declared.finding.Finding.{Finding}
use Rattle.faults.specs.Finding.{finding_of, found_of}
use Rattle.checker.specs.CheckText.{Verdict, refused, place_of, found_in, history_read, rows_of, certificate_read, check_text, carried_line}
use Rattle.checker.specs.Verdict.{verdict_of}
use Rattle.checker.proofs.AnswerLaws.{checked_of, answer-back}
use Rattle.checker.proofs.TextTheorems.{checked-as, refused_as, lists-readable}
use Rattle.checker.proofs.EventLaws.{Below, event-below}

-- ---- the answers of the code
-- what the check of two records finds, if anything
pub found-err : (r : Result (Unit {0}) Finding) → found_of (result_err r) ≡ finding_of r
found-err (Ok u) = refl
found-err (Err f) = refl

-- a reading refusal
unread-refused : (u : Unread) → refused (texts_read (Err u)) ≡ verdict_of (Err (refusal_in u))
unread-refused (NoHistory r) = refl
unread-refused (NoCertificate h r) = refl

pub unread-number : (u : Unread) → fault_number (refusal_in u).fault ≡ (texts_read (Err u)).fault
unread-number (NoHistory r) = refl
unread-number (NoCertificate h r) = refl

pub unread-fault : (u : Unread) → (texts_read (Err u)).fault ≡ 0 → ⊥
unread-fault (NoHistory r) z = fault-some r.fault z
unread-fault (NoCertificate h r) z = fault-some r.fault z

-- the answer that stands for a refused reading tells its verdict back
pub refused-back : (r : Result Texts Unread) → ((texts_read r).fault ≡ 0 → ⊥) → verdict_of (checked_of (refused (texts_read r))) ≡ refused (texts_read r)
refused-back (Ok t) n = absurd (n refl)
refused-back (Err u) n =
    ap (λ (v : Verdict). verdict_of (checked_of v)) (unread-refused u)
    ∙ ap verdict_of (answer-back (Err (refusal_in u)))
    ∙ sym (unread-refused u)

pub refused-answer : (history text : List ℕ) (u : Unread) → texts_read (Err u) ≡ read_certificate history text
    → verdict_of (Err (refusal_in u)) ≡ check_text history text
refused-answer history text u read =
    sym (unread-refused u) ∙ ap refused read
    ∙ sym (refused_as history text (λ z. unread-fault u (ap (λ (x : CertificateRead). x.fault) read ∙ z)))

module _ (history text : List ℕ) (r : CertificateRead) (read : r ≡ read_certificate history text) where
  module _ (z : r.fault ≡ 0) (rows : List (List ℕ)) (rows-read : rows ≡ rows_read history text (replicate 64 no_row)) where
    pub no-fault : (read_certificate history text).fault ≡ 0
    no-fault = sym (ap (λ (x : CertificateRead). x.fault) read) ∙ z

    history-is : r.history ≡ (read_history history).history
    history-is =
        ap (λ (x : CertificateRead). x.history) read
        ∙ ap (λ (x : CertificateRead). x.history) (read_as history text no-fault (replicate 64 no_row))

    -- what was read is within its limits
    pub within-read : within r.history ≡ true
    within-read = ap within history-is ∙ read-within history (no-fault-history history text no-fault)

    pub fits_read : fits (events_in r.history) r.certificate rows ≡ true
    fits_read =
        ap (λ (h : History). fits (events_in h) r.certificate rows) history-is
        ∙ ap₂ (λ (x : CertificateRead) (l : List (List ℕ)). fits (events_in (read_history history).history) x.certificate l) read rows-read
        ∙ read_fits history text no-fault (replicate 64 no_row)

    pub limits-read : (within r.history ≡ true) × (fits (events_in r.history) r.certificate rows ≡ true)
    limits-read = (within-read, fits_read)

    -- what is made of the records that were read is made of the texts
    pub of-texts : {A : Type 0} (F : History → Certificate → List (List ℕ) → A)
        → F r.history r.certificate rows ≡ F (read_history history).history (read_certificate history text).certificate (rows_of history text)
    of-texts F =
        ap (λ (h : History). F h r.certificate rows) history-is
        ∙ ap₂ (λ (x : CertificateRead) (l : List (List ℕ)). F (read_history history).history x.certificate l) read rows-read

    -- both texts are read
    pub checked-read : found_in history r.history.declared r.certificate.criterion
        (check (history_of r.history) (certificate_of r.history r.certificate rows))
        ≡ check_text history text
    unfolding history_read certificate_read certificate_of
    checked-read =
        of-texts (λ (h : History) (c : Certificate) (l : List (List ℕ)). found_in history h.declared c.criterion (check (history_of h) (certificate_of h c l)))
        ∙ sym (checked-as history text no-fault)

-- ---- where the line of a verdict lies
placed-found : (history text : List ℕ) (declared : ℕ) (x : Option ℕ) → PlacedIn history text (place_of history declared x)
placed-found history text declared none = record { from = omega arith; to = omega arith }
placed-found history text declared (some e) = record { from = omega arith; to = event-within history declared e }

small-found : (history : List ℕ) (x : Option ℕ) → (read_history history).fault ≡ 0 → Below 64 x
    → Small (place_of history (read_history history).history.declared x)
small-found history none z b = record { line = omega arith; end = omega arith }
small-found history (some e) z b =
    record {
      line = omega (arith, few-declared history);
      end = omega (arith, event-within history (read_history history).history.declared e, (no-fault-readable history z).short);
    }

below_more : (n m : ℕ) (x : Option ℕ) → n ≤ m → Below n x → Below m x
below_more n m none h b = tt
below_more n m (some e) h b = omega arith

module _ (history text : List ℕ) where
  -- what holds of the place of a reading refusal and of the line of an event holds of the place of a verdict
  placed-verdict : (P : Place → Type 0) → P (read_certificate history text).place
      → ((read_certificate history text).fault ≡ 0
      → P (place_of history (read_history history).history.declared (answer_of (check (history_read history) (certificate_read history text))).event))
      → P (check_text history text).place
  placed-verdict P p q =
      by-eq (read_certificate history text).fault 0
      (λ z. subst (λ (v : Verdict). P v.place) (sym (checked-as history text z)) (q z))
      (λ n. subst (λ (v : Verdict). P v.place) (sym (refused_as history text n)) p)

  -- the event that was found is one of the history's events
  pub event-read : (read_certificate history text).fault ≡ 0
      → Below (read_history history).history.count (answer_of (check (history_read history) (certificate_read history text))).event
  unfolding history_read
  event-read z =
      let counted : length (events_in (read_history history).history) ≡ (read_history history).history.count =
      (within-limits (read_history history).history (read-within history (no-fault-history history text z))).all in
      below_more (size (history_read history)) (read_history history).history.count
      (answer_of (check (history_read history) (certificate_read history text))).event
      (omega (arith, size_is (read_history history).history))
      (event-below (history_read history) (certificate_read history text) (lists-readable history text z))

  -- it lies within the text that it is in, and its numbers are small
  pub verdict-placed : PlacedIn history text (check_text history text).place
  verdict-placed =
      placed-verdict (PlacedIn history text) (placed-two history text)
      (λ z. placed-found history text (read_history history).history.declared (answer_of (check (history_read history) (certificate_read history text))).event)

  pub verdict-small : Small (check_text history text).place
  verdict-small =
      placed-verdict Small (small-two history text)
      (λ z. small-found history (answer_of (check (history_read history) (certificate_read history text))).event (no-fault-history history text z)
      (below_more (read_history history).history.count 64 (answer_of (check (history_read history) (certificate_read history text))).event
      (few-counted history) (event-read z)))

-- ---- of a place that an answer carries
module _ (history text : List ℕ) (p : Place) (q : p ≡ (check_text history text).place) where
  pub answer-placed : PlacedIn history text p
  answer-placed = subst (PlacedIn history text) (sym q) (verdict-placed history text)

  pub answer-small : Small p
  answer-small = subst Small (sym q) (verdict-small history text)

  pub carried-part : part_at p history text ≡ carried_line history text
  unfolding carried_line
  carried-part = ap (λ (x : Place). part_at x history text) q

-- where no line is carried
pub carried_none : (history text : List ℕ) → nowhere ≡ (check_text history text).place → [] ≡ carried_line history text
carried_none history text q = sym (ap (take 0) (drop-nil 0) ∙ take-nil 0) ∙ carried-part history text nowhere q

-- ---- of a line that an answer carries
module _ (history text : List ℕ) (p : code-place.Place) (q : line_place p ≡ (check_text history text).place) where
  pub line-begins : p.start ≤ p.end
  line-begins = (answer-placed history text (line_place p) q).from

  module _ (of : List ℕ) (e : of ≡ text_named (text_in p.text) history text) where
    pub line-ends : p.end ≤ length of
    line-ends = rw e (answer-placed history text (line_place p) q).to

    pub line-carried : bytes_at (line_place p) of ≡ carried_line history text
    line-carried = ap (bytes_at (line_place p)) e ∙ carried-part history text (line_place p) q
