-- A verdict tells the answer of the code that stands for it, and that answer tells the verdict of two texts. Assumes nothing.
use Rattle.std.specs.Prelude as code
use Rattle.std.specs.Prelude.{ℕ, List, Result, Ok, Err, IfSome}
use Rattle.std.proofs.Common.{◌≡◌, refl, sym, ap, ap₂, ◌∙◌, subst}
use Rattle.std.proofs.Math.Option.{Option, none, some}
use mathlib.Core.HLevel.{⊥_prop}
use Rattle.std.proofs.Math.Logic.{∥∥₁_elim}
use Rattle.layout.proofs.Cases.{by-eq}
use Rattle.history.specs.declared.fault.Fault as faulty
use Rattle.history.specs.Faults.{fault_number}
use Rattle.history.proofs.FaultLaws.{fault_of, fault-back}
use Rattle.history_reader.specs.declared.place.Text as code-text
use Rattle.history_reader.specs.declared.place.Text.TheVariants as code-texts
use Rattle.history_reader.specs.declared.place.Place as code-place
use Rattle.history_reader.specs.declared.read.Refusal.{Refusal}
use Rattle.history_reader.specs.Place.{Text, Place, Neither, HistoryText, CertificateText, text_in, line_place, place_in}
use Rattle.history_reader.specs.ReadHistory.{read_history}
use Rattle.certificate.specs.declared.record.Criterion.{Criterion}
use Rattle.certificate_reader.specs.ReadCertificate.{read_certificate}
use Rattle.certificate_reader.proofs.RefusalLaws.{refuses-two}
use Rattle.criteria.specs.Check.{Fault, answer_of, check}
use Rattle.faults.specs.declared.finding.Finding.{Finding}
use Rattle.faults.specs.declared.finding.Finding.TheVariants.{LacksOwn, InOwnPast, LacksPast, NotItsSet, Against, Wrong, OutsidePast}
use Rattle.faults.specs.Finding.{finding_of, finding_in, found_of}
use Rattle.faults.proofs.FindingLaws as findings
use Rattle.checker.specs.declared.checked.Checked.{Checked}
use Rattle.checker.specs.CheckText as texts
use Rattle.checker.specs.CheckText.{Verdict, refused_at, checked, found_in, history_read, certificate_read, check_text}
use Rattle.checker.specs.Verdict.{verdict_of}
use Rattle.checker.proofs.TextTheorems.{checked-as, refused_as}

-- ---- the line of a place
abbrev text_of : Text → code-text.Text
text_of Neither = code-texts.Neither
text_of HistoryText = code-texts.History
text_of CertificateText = code-texts.Certificate

text-back : (t : code-text.Text) → text_of (text_in t) ≡ t
text-back code-texts.History = refl
text-back code-texts.Certificate = refl
text-back code-texts.Neither = refl

text-again : (t : Text) → text_in (text_of t) ≡ t
text-again Neither = refl
text-again HistoryText = refl
text-again CertificateText = refl

abbrev line_of : Place → code-place.Place
line_of p = record { text = text_of p.text; line = p.line; start = p.start; end = p.end }

line-back : (p : code-place.Place) → line_of (line_place p) ≡ p
line-back p = ap {B = code-place.Place} (λ (t : code-text.Text). record { text = t; line = p.line; start = p.start; end = p.end }) (text-back p.text)

abbrev named : Text → code-place.Place → code.Option code-place.Place
named Neither p = code.None
named HistoryText p = code.Some p
named CertificateText p = code.Some p

abbrev place_of : Place → code.Option code-place.Place
place_of p = named p.text (line_of p)

-- as a `Checked` has it: a line that stands is one of a text
abbrev IsNamed : code.Option code-place.Place → Type 0
IsNamed o = ∥ IfSome o (λ (p : code-place.Place). p.text ≡ code-texts.Neither → ⊥) ∥₁

named-back : (t : code-text.Text) (p : code-place.Place) → ∥ (t ≡ code-texts.Neither → ⊥) ∥₁ → named (text_in t) p ≡ code.Some p
named-back code-texts.History p n = refl
named-back code-texts.Certificate p n = refl
named-back code-texts.Neither p n = absurd (∥∥₁_elim n ⊥_prop (λ (h : code-texts.Neither ≡ code-texts.Neither → ⊥). h refl))

place-back : (o : code.Option code-place.Place) → IsNamed o → place_of (place_in o) ≡ o
place-back code.None n = refl
place-back (code.Some p) n = named-back p.text (line_of (line_place p)) n ∙ ap code.Some (line-back p)

some-named : (t : Text) (p : code-place.Place) → p.text ≡ text_of t → IsNamed (named t p)
some-named Neither p e = ∣ tt ∣₁
some-named HistoryText p e = ∣ (λ n. cc) ∣₁
some-named CertificateText p e = ∣ (λ n. cc) ∣₁

pub place-named : (p : Place) → IsNamed (place_of p)
place-named p = some-named p.text (line_of p) refl

-- ---- what was found
abbrev found : Result (Unit {0}) Finding → code.Option Finding
found (Ok u) = code.None
found (Err f) = code.Some f

found-back : (o : code.Option Finding) → found (finding_in (answer_of (found_of o))) ≡ o
found-back code.None = refl
found-back (code.Some (LacksOwn e)) = refl
found-back (code.Some (InOwnPast e)) = refl
found-back (code.Some (LacksPast e)) = refl
found-back (code.Some (NotItsSet v)) = refl
found-back (code.Some (Against v)) = refl
found-back (code.Some (Wrong v e)) = refl
found-back (code.Some (OutsidePast v)) = refl

-- ---- the whole answer
abbrev checked_by : Option Criterion → Verdict → Result Checked Refusal
checked_by none v = Err record { fault = fault_of v.number; place = line_of v.place }
checked_by (some c) v =
    Ok
    record {
      criterion = c;
      finding = found (finding_in record { number = v.number; view = v.view; event = v.event });
      place = place_of v.place;
      named = place-named v.place;
    }

-- the answer of the code for a verdict
abbrev pub checked_of : Verdict → Result Checked Refusal
checked_of v = checked_by v.criterion v

-- two of the same parts are one, as a fact has one proof
module _ (c : Criterion) where
  abbrev with-parts : code.Option Finding → (p : code.Option code-place.Place) → IsNamed p → Checked
  with-parts f p n = record { criterion = c; finding = f; place = p; named = n }

  same-parts : (f g : code.Option Finding) (p q : code.Option code-place.Place) (n : IsNamed p) (m : IsNamed q) → f ≡ g → p ≡ q
      → with-parts f p n ≡ with-parts g q m
  same-parts f g p q n m e d =
      subst (λ (x : code.Option code-place.Place). (m : IsNamed x) → with-parts f p n ≡ with-parts g x m) d
      (λ m. ap₂ {C = Checked} (λ (x : code.Option Finding) (h : IsNamed p). with-parts x p h) e (squash₁ n m)) m

pub answer-back : (x : Result Checked Refusal) → checked_of (verdict_of x) ≡ x
answer-back (Ok c) = ap Ok (same-parts c.criterion _ c.finding _ c.place _ c.named (found-back c.finding) (place-back c.place c.named))
answer-back (Err r) =
    ap₂ {C = Result Checked Refusal} (λ (f : faulty.Fault) (p : code-place.Place). Err record { fault = f; place = p })
    (fault-back r.fault) (line-back r.place)

-- so a verdict is the whole answer
pub same-answer : (x : Result Checked Refusal) (v : Verdict) → verdict_of x ≡ v → x ≡ checked_of v
same-answer x v q = sym (answer-back x) ∙ ap checked_of q

-- ---- and the answer for a verdict of two texts stands for it
-- both texts are read
read-place : (history : List ℕ) (declared : ℕ) (x : Option ℕ) → place_in (place_of (texts.place_of history declared x)) ≡ texts.place_of history declared x
read-place history declared none = refl
read-place history declared (some e) = refl

found-finding : (r : Result (Unit {0}) Finding) → found_of (found r) ≡ finding_of r
found-finding (Ok u) = refl
found-finding (Err f) = refl

read-back : (history : List ℕ) (declared : ℕ) (c : Criterion) (x : Option Fault)
    → verdict_of (checked_of (found_in history declared c x)) ≡ found_in history declared c x
read-back history declared c x =
    ap₂ {C = Verdict} (λ (p : Place) (y : Option Fault). checked p c (answer_of y))
    (read-place history declared (answer_of x).event)
    (found-finding (finding_in (answer_of x)) ∙ findings.fault-back x)

-- one is refused: its number is that of a fault
refused-numbered : (n : ℕ) (p : Place) → fault_number (fault_of n) ≡ n → verdict_of (checked_of (refused_at n p)) ≡ refused_at n p
refused-numbered n p e =
    ap₂ {C = Verdict} (λ (m : ℕ) (t : Text). refused_at m (record { text = t; line = p.line; start = p.start; end = p.end })) e (text-again p.text)

pub verdict-is : (history text : List ℕ) (k : Result Checked Refusal) → k ≡ checked_of (check_text history text)
    → verdict_of k ≡ check_text history text
verdict-is history text k q =
    let r = read_certificate history text in
    let refuses = refuses-two (λ (t : Text). Unit {0}) tt tt history text in
    ap verdict_of q
    ∙ by-eq r.fault 0
    (λ z. subst (λ (v : Verdict). verdict_of (checked_of v) ≡ v) (sym (checked-as history text z))
    (read-back history (read_history history).history.declared (certificate_read history text).criterion (check (history_read history) (certificate_read history text))))
    (λ n. subst (λ (v : Verdict). verdict_of (checked_of v) ≡ v) (sym (refused_as history text n))
    (refused-numbered r.fault r.place (refuses.number n)))
