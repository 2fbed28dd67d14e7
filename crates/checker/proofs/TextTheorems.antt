-- The theorems of the check on texts: what acceptance means; no history is accepted under a criterion that it breaks; and one that
-- meets a criterion has an accepted certificate text. Assumes nothing.
use Prim.Native.Nat.{ℕ}
use native.Mathlib.Omega.{arith}
use mathlib.Core.Path.{◌≡◌, refl, sym, ap, ap₂, ◌∙◌, subst}
use mathlib.Core.Bool.{true}
use mathlib.Core.List.{List}
use mathlib.Core.Option.{Option, none, some, none-ne-some}
use lib.ListN.{replicate}
use borrow.Author.Tests.{eq-eqb, ne_eqb}
use Rattle.layout.proofs.Cases.{by-eq}
use Rattle.history_reader.specs.Place.{nowhere}
use Rattle.history_reader.specs.ReadHistory.{read_history}
use Rattle.history_theorems.proofs.Guarantees as HistoryGuarantees
use Rattle.certificate.specs.declared.record.Criterion.{Criterion}
use Rattle.certificate.specs.Record.{no_row}
use Rattle.certificate.specs.Record as TextRecord
use Rattle.certificate.specs.CertificateText.{certificate_text}
use Rattle.certificate.specs.Readable.{fits}
use Rattle.certificate_reader.specs.ReadCertificate.{CertificateRead, read_certificate}
use Rattle.certificate_theorems.proofs.Theorems.{events_of, few-events, no-fault-history, written_read, written-rows}
use Rattle.certificate_theorems.proofs.Guarantees as CertificateGuarantees
use Rattle.criteria.specs.Criteria.{Meets}
use Rattle.criteria.specs.Certificate.{Certificate, Readable}
use Rattle.criteria.specs.Check.{Fault, fault11, fault12, fault13, fault14, fault15, fault16, fault20, answer_of, check}
use Rattle.criteria.specs.Records.{certificate_of}
use Rattle.criteria.proofs.Meeting.{FewProcesses, sound, complete}
use Rattle.criteria.proofs.RecordLaws.{few-processes, readable}
use Rattle.checker.proofs.ListTexts.{lists-fit, pasts-back, views-back}
use Rattle.checker.specs.CheckText.{Verdict, refused, found_in, history_read, rows_of, certificate_read, check_text, Accepted, Names}

-- ---- 0 is acceptance, and only then
none_of : (x : Option Fault) → (answer_of x).number ≡ 0 → x ≡ none
none_of none e = refl
none_of (some (fault11 e)) n = absurd (omega arith)
none_of (some (fault12 e)) n = absurd (omega arith)
none_of (some (fault13 e)) n = absurd (omega arith)
none_of (some (fault14 e)) n = absurd (omega arith)
none_of (some (fault15 e)) n = absurd (omega arith)
none_of (some (fault20 v)) n = absurd (omega arith)
none_of (some (fault16 v e)) n = absurd (omega arith)

same_name : {v w : Criterion} → ◌≡◌ {A = Option Criterion} (some v) (some w) → v ≡ w
same_name e = cc

module _ (history text : List ℕ) where
  -- both texts are read
  pub checked-as : (read_certificate history text).fault ≡ 0
      → check_text history text
      ≡ found_in history (read_history history).history.declared (certificate_read history text).criterion
      (check (history_read history) (certificate_read history text))
  unfolding check_text
  checked-as z = rw (eq-eqb (read_certificate history text).fault 0 z)

  pub refused_as : ((read_certificate history text).fault ≡ 0 → ⊥) → check_text history text ≡ refused (read_certificate history text)
  unfolding check_text
  refused_as n = rw (ne_eqb (read_certificate history text).fault 0 n)

  -- a certificate text is accepted exactly when both texts are readable and the check of their lists finds nothing
  pub accepted-read : Accepted history text → (read_certificate history text).fault ≡ 0
  unfolding Accepted
  accepted-read a =
      by-eq (read_certificate history text).fault 0 (λ z. z) (λ n. sym (ap (λ (v : Verdict). v.number) (refused_as n)) ∙ a)

  pub accepted-passes : Accepted history text → check (history_read history) (certificate_read history text) ≡ none
  unfolding Accepted
  accepted-passes a =
      none_of (check (history_read history) (certificate_read history text))
      (sym (ap (λ (v : Verdict). v.number) (checked-as (accepted-read a))) ∙ a)

  pub passes-accepted : (read_certificate history text).fault ≡ 0 → check (history_read history) (certificate_read history text) ≡ none
      → Accepted history text
  unfolding Accepted
  passes-accepted z e = ap (λ (v : Verdict). v.number) (checked-as z) ∙ ap (λ (x : Option Fault). (answer_of x).number) e

  pub accepted-names : Accepted history text → Names history text (certificate_read history text).criterion
  unfolding Names
  accepted-names a = ap (λ (v : Verdict). v.criterion) (checked-as (accepted-read a))

  -- a text that names a criterion is read
  pub names-read : (v : Criterion) → Names history text v → (read_certificate history text).fault ≡ 0
  unfolding Names
  names-read v n =
      by-eq (read_certificate history text).fault 0 (λ z. z)
      (λ m. absurd (none-ne-some v (sym (ap (λ (x : Verdict). x.criterion) (refused_as m)) ∙ n)))

  -- the criterion that a text names is that of its lists
  pub named : (v : Criterion) → Names history text v → (certificate_read history text).criterion ≡ v
  unfolding Names
  named v n = same_name (sym (ap (λ (x : Verdict). x.criterion) (checked-as (names-read v n))) ∙ n)

  -- what reading guarantees of the lists
  pub lists-readable : (read_certificate history text).fault ≡ 0 → Readable (history_read history) (certificate_read history text)
  unfolding history_read certificate_read
  lists-readable z =
      readable (read_history history).history (read_certificate history text).certificate (rows_of history text)
      (CertificateGuarantees.read-sound history text (replicate 64 no_row) z)

  -- what reading guarantees of the processes
  pub few-processes-of : Accepted history text → FewProcesses (history_read history)
  unfolding history_read
  few-processes-of a =
      few-processes (read_history history).history (HistoryGuarantees.read-sound history (no-fault-history history text (accepted-read a)))

  -- whatever certificate text somebody writes, no history is accepted under a criterion that it breaks
  pub accepted-meets : Accepted history text → Meets (certificate_read history text).criterion (history_read history)
  unfolding history_read
  accepted-meets a =
      let z = accepted-read a in
      sound (history_read history) (certificate_read history text)
      (few-processes-of a)
      (lists-readable z)
      (accepted-passes a)

-- ---- the text of a certificate of a readable history text
module _ (history : List ℕ) (z : (read_history history).fault ≡ 0) (c : Certificate) (r : Readable (history_read history) c) where
  abbrev pub text-of : List ℕ
  text-of =
      certificate_text (events_of history) (TextRecord.certificate_of c.criterion c.pasts c.views) (TextRecord.rows_of c.views)

  within-limits : fits (events_of history) (TextRecord.certificate_of c.criterion c.pasts c.views) (TextRecord.rows_of c.views) ≡ true
  unfolding history_read
  within-limits = lists-fit (read_history history).history (few-events history z) c r

  text-read : read_certificate history text-of
      ≡ record {
        fault = 0;
        place = nowhere;
        history = (read_history history).history;
        certificate = TextRecord.certificate_of c.criterion c.pasts c.views;
      }
  text-read =
      written_read history z (TextRecord.certificate_of c.criterion c.pasts c.views) (TextRecord.rows_of c.views) within-limits

  rows_back : rows_of history text-of ≡ TextRecord.rows_of c.views
  rows_back =
      written-rows history z (TextRecord.certificate_of c.criterion c.pasts c.views) (TextRecord.rows_of c.views) within-limits
      (replicate 64 no_row)

  -- it is read as that certificate
  pub text-is : certificate_read history text-of ≡ c
  unfolding history_read certificate_read certificate_of TextRecord.certificate_of
  text-is =
      ap₂ (λ (x : CertificateRead) (rows : List (List ℕ)). certificate_of (read_history history).history x.certificate rows) text-read rows_back
      ∙ ap₂ {C = Certificate} (λ (ps vs : List (List ℕ)). record { criterion = c.criterion; pasts = ps; views = vs })
      (pasts-back (read_history history).history (few-events history z) c r) (views-back (read_history history).history (few-events history z) c r)

  pub text-accepted : check (history_read history) c ≡ none → Accepted history text-of × Names history text-of c.criterion
  text-accepted e =
      let a : Accepted history text-of =
      passes-accepted history text-of (ap (λ (x : CertificateRead). x.fault) text-read)
      (ap (check (history_read history)) text-is ∙ e) in
      (a, rw text-is at (accepted-names history text-of a))

-- a readable history that meets a criterion has a certificate text that names it and is accepted
pub record Certified (history : List ℕ) (w : Criterion) : Type 0 where
  pub text : List ℕ
  pub accepted : Accepted history text
  pub names : Names history text w

pub meets_certified : (history : List ℕ) → (read_history history).fault ≡ 0 → (w : Criterion) → Meets w (history_read history) → Certified history w
meets_certified history z w m =
    let x = complete (history_read history) w m in
    let p = text-accepted history z x.0 x.2 x.3 in
    record {
      text = text-of history z x.0 x.2;
      accepted = p.0;
      names = subst (λ (k : Criterion). Names history (text-of history z x.0 x.2) k) x.1 p.1;
    }
