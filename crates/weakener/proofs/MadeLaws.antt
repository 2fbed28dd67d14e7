-- Laws of the answer with which a text is made. Assumes nothing.
use Rattle.std.specs.Prelude.{Result, Ok, Err, MatchResult, IsErrAnd}
use Prim.Native.Nat.{ℕ}
use native.Mathlib.Omega.{arith}
use mathlib.Core.Path.{◌≡◌, refl, sym, ap, ap₂, ◌∙◌, subst}
use mathlib.Core.Bool.{Bool, true, false, cond, false≢true}
use mathlib.Core.List.{List}
use mathlib.Core.Option.{Option, none, some}
use lib.ListN.{length}
use lib.Dec.{leb}
use borrow.Author.Tests.{ne_eqb}
use Rattle.layout.specs.Fill.{after}
use Rattle.history.specs.declared.record.History as WrittenHistory
use Rattle.history.specs.Record.{events_in}
use Rattle.history.specs.Readable.{within}
use Rattle.history_reader.specs.Place.{nowhere}
use Rattle.history_reader.proofs.ReadLaws.{kept}
use Rattle.certificate.specs.declared.record.Criterion.{Criterion}
use Rattle.certificate.specs.declared.record.Certificate as WrittenCertificate
use Rattle.certificate.specs.Criteria.{has_pasts}
use Rattle.certificate.specs.CertificateText.{certificate_text}
use Rattle.certificate.specs.Readable.{fits}
use Rattle.history_writer.specs.declared.write.WriteFault.{WriteFault}
use Rattle.history_writer.specs.declared.write.WriteFault.TheVariants.{OutsideLimits}
use Rattle.history_writer.specs.declared.write.WriteFault.TheVariants as WriteFaults
use Rattle.history_writer.specs.WriteHistory.{Written, write_fault_number}
use Rattle.certificate_writer.specs.WriteCertificate.{certificate_written, certificate_after}
use Rattle.criteria.specs.History.{History}
use Rattle.criteria.specs.Certificate.{Certificate, Readable}
use Rattle.criteria.specs.Check.{Fault, answer_of, check}
use Rattle.criteria.specs.OneLine.{in_one_line}
use Rattle.criteria.specs.Records.{history_of, certificate_of}
use Rattle.criteria.proofs.Weaken.{is_some, weaken-accepted, pair-weakened}
use Rattle.criteria.proofs.OneLine.{one-line-accepted}
use Rattle.faults.specs.declared.finding.Finding.{Finding}
use Rattle.faults.specs.declared.finding.Finding.TheVariants.{LacksOwn, InOwnPast, LacksPast, NotItsSet, Against, Wrong, OutsidePast}
use Rattle.faults.specs.Finding.{fault_in, finding_of}
use Rattle.checker.specs.CheckText.{Verdict, checked, found_in}
use Rattle.checker.specs.declared.checked.Checked.{Checked}
use Rattle.checker.specs.Verdict.{checked_as}
use Rattle.checker.specs.MadeText.{text_of_lists, text_if_some, made_answer}
use Rattle.checker.proofs.ListTexts.{lists-fit, text-lists}
use Rattle.checker.proofs.MadeLaws.{some-text, no_text}
use Rattle.weakened_records.specs.Steps.{Passed, IsRecordOf}
use Rattle.weakened_records.proofs.PassedLaws.{few-events, processes-passed, readable-passed, short-passed}
use Rattle.weakener.specs.declared.made.Made.{Made}
use Rattle.weakener.specs.declared.made.Wanted.{Wanted}
use Rattle.weakener.specs.declared.made.Wanted.TheVariants.{Named, OneLine}
use Rattle.weakener.specs.declared.made.Unmade.{Unmade}
use Rattle.weakener.specs.declared.made.Unmade.TheVariants.{NotPair, Faulty, Crossing, TooShort}
use Rattle.weakener.specs.Steps.{IsMade, may_be_made, lists_wanted, crosses_wanted, OrderWanted, IsMadeOf}

-- ---- the answers
-- a fault is no acceptance
found_number : (f : Finding) → (answer_of (some (fault_in f))).number ≡ 0 → ⊥
found_number (LacksOwn e) z = omega (arith, z)
found_number (InOwnPast e) z = omega (arith, z)
found_number (LacksPast e) z = omega (arith, z)
found_number (NotItsSet v) z = omega (arith, z)
found_number (Against v) z = omega (arith, z)
found_number (Wrong v e) z = omega (arith, z)
found_number (OutsidePast v) z = omega (arith, z)

module _ (v : Verdict) (c : Criterion) (x : Bool) (o : Option (List ℕ)) (buffer : List ℕ) where
  -- 17
  pub answers-seventeen : o ≡ none → IsMade (made_answer v c x o buffer) o buffer (Err (NotPair c)) buffer
  answers-seventeen q = record {
    answer = rw q refl;
    made = rw q refl;
    long = rw q refl;
    bytes = rw q refl;
  }

  -- 11 to 16, and 20
  pub answers-found : (t : List ℕ) (f : Finding) (k : Checked) → o ≡ some t → checked_as k ≡ v → v.number ≡ (answer_of (some (fault_in f))).number
      → IsMade (made_answer v c x o buffer) o buffer (Err (Faulty k)) buffer
  answers-found t f k q e found =
      let n = ne_eqb v.number 0 (λ z. found_number f (sym found ∙ z)) in
      record {
        answer = rw (q, n) e;
        made = rw (q, n, n) refl;
        long = rw (q, n, n) refl;
        bytes = rw (q, n, n) refl;
      }

  -- 26
  pub answers-crossed : (t : List ℕ) → o ≡ some t → v ≡ checked nowhere c (answer_of none) → x ≡ true
      → IsMade (made_answer v c x o buffer) o buffer (Err (Crossing c)) buffer
  answers-crossed t q e z = record {
    answer = rw (q, e, z) refl;
    made = rw (q, e, z) refl;
    long = rw (q, e, z) refl;
    bytes = rw (q, e, z) refl;
  }

  -- the text, or 18
  module _ (t : List ℕ) (then : List ℕ) (q : o ≡ some t) (e : v ≡ checked nowhere c (answer_of none)) (z : x ≡ false) (b : then ≡ after t buffer) where
    pub answers-made : (n : ℕ)
        → ◌≡◌ {A = Written} (record { number = 0; length = n }) (cond (leb (length t) (length buffer)) record { number = 0; length = length t } record { number = 18; length = 0 })
        → IsMade (made_answer v c x o buffer) o buffer (Ok record { criterion = c; length = n }) then
    unfolding after
    answers-made n p = go (leb (length t) (length buffer)) refl
      where
        go : (room : Bool) → leb (length t) (length buffer) ≡ room → IsMade (made_answer v c x o buffer) o buffer (Ok record { criterion = c; length = n }) then
        go true r =
            let same : n ≡ length t = ap (λ (w : Written). w.length) (rw r at p) in
            record {
              answer = rw (q, e, z, r) refl;
              made = rw (q, e, z, r) refl;
              long = rw (q, e, z, r) same;
              bytes = b ∙ rw (q, e, z, r) refl;
            }
        go false r =
            let other : 0 ≡ 18 = ap (λ (w : Written). w.number) (rw r at p) in
            absurd (omega (arith, other))

    pub answers-short : (f : WriteFault)
        → ◌≡◌ {A = Written} (record { number = write_fault_number f; length = 0 }) (cond (leb (length t) (length buffer)) record { number = 0; length = length t } record { number = 18; length = 0 })
        → IsMade (made_answer v c x o buffer) o buffer (Err (TooShort c)) then
    unfolding after
    answers-short f p = go (leb (length t) (length buffer)) refl
      where
        some-number : (f : WriteFault) → write_fault_number f ≡ 0 → ⊥
        some-number OutsideLimits h = omega (arith, h)
        some-number WriteFaults.TooShort h = omega (arith, h)

        go : (room : Bool) → leb (length t) (length buffer) ≡ room → IsMade (made_answer v c x o buffer) o buffer (Err (TooShort c)) then
        go true r = absurd (some-number f (ap (λ (w : Written). w.number) (rw r at p)))
        go false r = record {
          answer = rw (q, e, z, r) refl;
          made = rw (q, e, z, r) refl;
          long = rw (q, e, z, r) refl;
          bytes = b ∙ rw (q, e, z, r) refl;
        }

-- ---- the lists that are wanted
-- there are some exactly where they may be made
lists-some : (w : Wanted) (h : History) (c : Certificate) → is_some (lists_wanted w h c) ≡ may_be_made c.criterion w
unfolding in_one_line
lists-some (Named w) h c = pair-weakened w h c
lists-some OneLine h c = go _ (has_pasts c.criterion)
  where
    go : (d : Certificate) (t : Bool) → is_some (cond t (some d) none) ≡ t
    go d true = refl
    go d false = refl

-- what the writer answers of a record within its limits
module _ (h : WrittenHistory.History) (c : WrittenCertificate.Certificate) (rows : List (List ℕ)) (w : within h ≡ true) (f : fits (events_in h) c rows ≡ true)
    (t : List ℕ) (says : certificate_text (events_in h) c rows ≡ t) (buffer : List ℕ) where
  written-text : certificate_written h c rows buffer
      ≡ cond (leb (length t) (length buffer)) record { number = 0; length = length t } record { number = 18; length = 0 }
  unfolding certificate_written
  written-text = rw (w, f, says) refl

  after_text : certificate_after h c rows buffer ≡ after t buffer
  unfolding certificate_after
  after_text = rw (w, f, says) refl

-- ---- a record that was read
-- within its limits, and nothing is found of it; and what is wanted can be made of it
pub record Makeable (h : WrittenHistory.History) (c : WrittenCertificate.Certificate) (rows : List (List ℕ)) (w : Wanted) : Type 0 where
  pub may : may_be_made c.criterion w ≡ true
  pub passed : Passed h c rows

-- so where the answer of the check, with what it finds made an answer on texts, is none
pub makeable : {h : WrittenHistory.History} {c : WrittenCertificate.Certificate} {rows : List (List ℕ)} {w : Wanted}
    → (within h ≡ true) × (fits (events_in h) c rows ≡ true) → true ≡ may_be_made c.criterion w
    → (r : Result (Unit {0}) Finding) (m : Result (Unit {0}) Checked) (Q : Finding → Checked → Type 0) → finding_of r ≡ check (history_of h) (certificate_of h c rows)
    → MatchResult r (λ x. m ≡ Ok x) (λ e. IsErrAnd m (Q e)) → m ≡ Ok tt → Makeable h c rows w
makeable p may r m Q e d was = record {
  may = sym may;
  passed = record { history = p.0; certificate = p.1; passes = sym e ∙ ap finding_of (kept r m Q tt d was) };
}

-- where one line is wanted, the order was read
pub order-read : {h : WrittenHistory.History} {c : WrittenCertificate.Certificate} {rows : List (List ℕ)} {w : Wanted} → Makeable h c rows w → OrderWanted w h c
order-read {h} {c} {rows} {w} m = go w m.may
  where
    go : (w : Wanted) → may_be_made c.criterion w ≡ true → OrderWanted w h c
    go (Named w) t = tt
    go OneLine t = record { history = m.passed.history; has = t; pasts = λ k l. short-passed h c rows m.passed k }

module _ (history : List ℕ) (h : WrittenHistory.History) (c : WrittenCertificate.Certificate) (rows : List (List ℕ)) (w : Wanted) (buffer : List ℕ) where
  -- the lists, the text, whether updates cross, and the verdict of the check
  abbrev lists : Option Certificate
  lists = lists_wanted w (history_of h) (certificate_of h c rows)

  abbrev text : Option (List ℕ)
  text = text_if_some (events_in h) lists

  abbrev cross : Bool
  cross = crosses_wanted w (history_of h) (certificate_of h c rows)

  abbrev verdict : Verdict
  verdict = found_in history h.declared c.criterion (check (history_of h) (certificate_of h c rows))

  abbrev Answers : Result Made Unmade → List ℕ → Type 0
  Answers r then = IsMadeOf history h c rows w buffer r then

  -- the criterion is not of the sort: 17
  pub refused-record : false ≡ may_be_made c.criterion w → Answers (Err (NotPair c.criterion)) buffer
  unfolding certificate_of
  refused-record e = record {
    is =
        answers-seventeen verdict c.criterion cross text buffer
        (no_text (events_in h) lists (lists-some w (history_of h) (certificate_of h c rows) ∙ sym e));
  }

  text-of : may_be_made c.criterion w ≡ true → (t : List ℕ) × (text ≡ some t)
  unfolding certificate_of
  text-of may = some-text (events_in h) lists (lists-some w (history_of h) (certificate_of h c rows) ∙ may)

  -- a fault of the check
  pub faulty-record : true ≡ may_be_made c.criterion w → (f : Finding) → some (fault_in f) ≡ check (history_of h) (certificate_of h c rows) → (k : Checked)
      → checked_as k ≡ found_in history h.declared c.criterion (some (fault_in f)) → Answers (Err (Faulty k)) buffer
  faulty-record may f q k e =
      let t = text-of (sym may) in
      record {
        is =
            answers-found verdict c.criterion cross text buffer t.0 f k t.1
            (e ∙ ap (found_in history h.declared c.criterion) q)
            (ap (λ (x : Option Fault). (answer_of x).number) (sym q));
      }

  module _ (m : Makeable h c rows w) where
    p : Passed h c rows
    p = m.passed

    wanted-text : (t : List ℕ) × (text ≡ some t)
    wanted-text = text-of m.may

    accepted : verdict ≡ checked nowhere c.criterion (answer_of none)
    accepted = ap (found_in history h.declared c.criterion) p.passes

    -- updates cross: 26
    pub crossed-record : true ≡ cross → Answers (Err (Crossing c.criterion)) buffer
    crossed-record z = record { is = answers-crossed verdict c.criterion cross text buffer wanted-text.0 wanted-text.1 accepted (sym z) }

    -- the lists are those of a readable certificate
    lists-readable : cross ≡ false → (d : Certificate) → lists ≡ some d → Readable (history_of h) d
    lists-readable = go w
      where
        go : (w : Wanted) → crosses_wanted w (history_of h) (certificate_of h c rows) ≡ false
            → (d : Certificate) → lists_wanted w (history_of h) (certificate_of h c rows) ≡ some d → Readable (history_of h) d
        go (Named w) z d e =
            (weaken-accepted (history_of h) w (certificate_of h c rows) d (processes-passed h c rows p) (readable-passed h c rows p) p.passes e).readable
        go OneLine z d e =
            (one-line-accepted (history_of h) (certificate_of h c rows) d (processes-passed h c rows p) (readable-passed h c rows p) p.passes z e).readable

    -- the record of the lists, written: what the writer answers and leaves in the buffer is of the text of the lists
    module _ (z : false ≡ cross) (r : WrittenCertificate.Certificate) (made : List (List ℕ)) (is : IsRecordOf lists r made) (then : List ℕ)
        (b : then ≡ certificate_after h r made buffer) where
      abbrev Told : List ℕ → Written → Type 0
      Told t x = x ≡ cond (leb (length t) (length buffer)) record { number = 0; length = length t } record { number = 18; length = 0 }

      told : (x : Written) → x ≡ certificate_written h r made buffer → (t : List ℕ) × (text ≡ some t) × (then ≡ after t buffer) × Told t x
      unfolding certificate_of
      told x q = go lists refl
        where
          go : (o : Option Certificate) → lists ≡ o → (t : List ℕ) × (text ≡ some t) × (then ≡ after t buffer) × Told t x
          go none e = absurd (false≢true (sym (ap is_some e) ∙ lists-some w (history_of h) (certificate_of h c rows) ∙ m.may))
          go (some d) e =
              let readable = lists-readable (sym z) d e in
              let fit = lists-fit h (few-events h c rows p) d readable in
              let says = text-lists h (few-events h c rows p) d readable in
              let same = subst (λ (o : Option Certificate). IsRecordOf o r made) e is in (
                text_of_lists (events_in h) d,
                ap (text_if_some (events_in h)) e,
                b ∙ ap₂ (λ (x : WrittenCertificate.Certificate) (l : List (List ℕ)). certificate_after h x l buffer) same.0 same.1
                    ∙ after_text h _ _ p.history fit (text_of_lists (events_in h) d) says buffer,
                q ∙ ap₂ (λ (x : WrittenCertificate.Certificate) (l : List (List ℕ)). certificate_written h x l buffer) same.0 same.1
                    ∙ written-text h _ _ p.history fit (text_of_lists (events_in h) d) says buffer,
              )

      pub made-record : (n : ℕ) → ◌≡◌ {A = Written} (record { number = 0; length = n }) (certificate_written h r made buffer)
          → Answers (Ok record { criterion = c.criterion; length = n }) then
      made-record n q =
          let s = told record { number = 0; length = n } q in
          record { is = answers-made verdict c.criterion cross text buffer s.0 then s.1 accepted (sym z) s.2 n s.3 }

      pub short-record : (f : WriteFault) → ◌≡◌ {A = Written} (record { number = write_fault_number f; length = 0 }) (certificate_written h r made buffer)
          → Answers (Err (TooShort c.criterion)) then
      short-record f q =
          let s = told record { number = write_fault_number f; length = 0 } q in
          record { is = answers-short verdict c.criterion cross text buffer s.0 then s.1 accepted (sym z) s.2 f s.3 }
