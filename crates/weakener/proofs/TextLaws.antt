-- On texts: what is made of two texts is what is made of the records that they are read as. Assumes nothing.
use Rattle.std.specs.Prelude as code
use Rattle.std.specs.Prelude.{Result, Ok, Err, is_ok}
use Prim.Native.Nat.{ℕ, zero, suc}
use mathlib.Core.Path.{◌≡◌, refl, sym, ap, ◌∙◌, subst}
use mathlib.Core.Bool.{Bool, true, false}
use mathlib.Core.List.{List}
use mathlib.Core.Option.{Option, none, some}
use lib.ListN.{replicate}
use lib.Dec.{eqb}
use borrow.Author.Tests.{eq-eqb, ne_eqb}
use Rattle.history.specs.declared.record.History.{History}
use Rattle.history.specs.Record.{events_in}
use Rattle.certificate.specs.declared.record.Criterion.{Criterion}
use Rattle.certificate.specs.declared.criterion.NoCriterion.{NoCriterion}
use Rattle.certificate.specs.Steps.Criteria.{criterion_numbered}
use Rattle.weakener.specs.declared.made.Wanted.TheVariants.{Named}
use Rattle.certificate.specs.declared.record.Certificate.{Certificate}
use Rattle.certificate.specs.Record.{no_row}
use Rattle.certificate_reader.specs.declared.read.Unread.{Unread}
use Rattle.certificate_reader.specs.declared.read.Unread.TheVariants.{NoHistory, NoCertificate}
use Rattle.certificate_reader.specs.ReadCertificate.{CertificateRead, texts_read, refusal_in, read_certificate, rows_read}
use Rattle.criteria.specs.Records.{history_of, certificate_of}
use Rattle.checker.specs.CheckText.{Verdict, refused, history_read, certificate_read, check_text}
use Rattle.checker.specs.MadeText.{text_if_some, plain, made_answer, made_verdict, length_made, bytes_made}
use Rattle.checker.specs.WeakenText.{weakened_text, wanted_of, weakened_wanted, weaken_answer, weaken_length, weaken_bytes}
use Rattle.checker.proofs.VerdictLaws.{unread-fault, no-fault, of-texts, checked-read}
use Rattle.weakener.specs.declared.made.Made.{Made}
use Rattle.weakener.specs.declared.made.Wanted.{Wanted}
use Rattle.weakener.specs.declared.made.Wanted.TheVariants.{OneLine}
use Rattle.weakener.specs.declared.made.Unmade.{Unmade}
use Rattle.weakener.specs.declared.made.Unmade.TheVariants.{Refused, NotPair}
use Rattle.weakener.specs.Made.{verdict_made, length_of}
use Rattle.weakener.specs.Steps.{IsMade, IsMadeOf, wanted_in, lists_wanted, crosses_wanted, text_wanted, crossing_wanted}

-- ---- the answer of two texts
module _ (wanted : code.Option Wanted) (history text buffer : List ℕ) where
  -- an answer and the buffer are those of the texts, whatever is wanted of them
  abbrev Answers : code.Option Wanted → Result Made Unmade → List ℕ → Type 0
  Answers w k then =
      IsMade (made_verdict history text (crossing_wanted w history text) (text_wanted w history text) buffer) (text_wanted w history text) buffer k then

  abbrev pub AnswersTexts : Result Made Unmade → List ℕ → Type 0
  AnswersTexts k then = Answers wanted k then

  -- a reading refusal
  refusal-is : (u : Unread) → verdict_made (Err (Refused (refusal_in u))) ≡ refused (texts_read (Err u))
  refusal-is (NoHistory r) = refl
  refusal-is (NoCertificate h r) = refl

  pub texts-refused : (u : Unread) → texts_read (Err u) ≡ read_certificate history text → AnswersTexts (Err (Refused (refusal_in u))) buffer
  texts-refused u read =
      let m : (read_certificate history text).fault ≡ 0 → ⊥ = λ z. unread-fault u (ap (λ (x : CertificateRead). x.fault) read ∙ z) in
      let e = ne_eqb (read_certificate history text).fault 0 m in
      record {
        answer = refusal-is u ∙ ap refused read ∙ rw e refl;
        made = rw (e, e) refl;
        long = rw (e, e) refl;
        bytes = rw (e, e) refl;
      }

  module _ (r : CertificateRead) (read : r ≡ read_certificate history text) where
    module _ (z : r.fault ≡ 0) (rows : List (List ℕ)) (rows-read : rows ≡ rows_read history text (replicate 64 no_row)) where
      readable : eqb (read_certificate history text).fault 0 ≡ true
      readable = eq-eqb (read_certificate history text).fault 0 (no-fault history text r read z rows rows-read)

      criterion-read : r.certificate.criterion ≡ (certificate_read history text).criterion
      unfolding certificate_read certificate_of
      criterion-read = ap (λ (x : CertificateRead). x.certificate.criterion) read

      -- nothing is wanted that there is: 17
      pub texts-none : wanted ≡ code.None → AnswersTexts (Err (NotPair r.certificate.criterion)) buffer
      texts-none q =
          subst (λ (w : code.Option Wanted). Answers w (Err (NotPair r.certificate.criterion)) buffer) (sym q)
          record {
            answer = rw readable (ap (λ (c : Criterion). plain c 17) criterion-read);
            made = rw readable refl;
            long = rw readable refl;
            bytes = rw readable refl;
          }

      -- both texts are read
      module _ (w : Wanted) where
        lists-read : text_if_some (events_in r.history) (lists_wanted w (history_of r.history) (certificate_of r.history r.certificate rows))
            ≡ text_wanted (code.Some w) history text
        unfolding history_read certificate_read
        lists-read =
            of-texts history text r read z rows rows-read
            (λ (h : History) (c : Certificate) (l : List (List ℕ)). text_if_some (events_in h) (lists_wanted w (history_of h) (certificate_of h c l)))

        cross-read : crosses_wanted w (history_of r.history) (certificate_of r.history r.certificate rows) ≡ crossing_wanted (code.Some w) history text
        unfolding history_read certificate_read
        cross-read =
            of-texts history text r read z rows rows-read
            (λ (h : History) (c : Certificate) (l : List (List ℕ)). crosses_wanted w (history_of h) (certificate_of h c l))

        pub texts-read : wanted ≡ code.Some w → (k : Result Made Unmade) (then : List ℕ)
            → IsMadeOf history r.history r.certificate rows w buffer k then → AnswersTexts k then
        texts-read q k then p =
            subst (λ (x : code.Option Wanted). Answers x k then) (sym q)
            (rw readable
            (subst (As (check_text history text) (certificate_read history text).criterion (crossing_wanted (code.Some w) history text)) lists-read
            (subst (λ (x : Bool). As (check_text history text) (certificate_read history text).criterion x made) cross-read
            (subst (λ (c : Criterion). As (check_text history text) c cross made) criterion-read
            (subst (λ (v : Verdict). As v r.certificate.criterion cross made) (checked-read history text r read z rows rows-read) p.is)))))
          where
            As : Verdict → Criterion → Bool → Option (List ℕ) → Type 0
            As v c x t = IsMade (made_answer v c x t buffer) t buffer k then

            cross : Bool
            cross = crosses_wanted w (history_of r.history) (certificate_of r.history r.certificate rows)

            made : Option (List ℕ)
            made = text_if_some (events_in r.history) (lists_wanted w (history_of r.history) (certificate_of r.history r.certificate rows))

-- ---- weakening: what is wanted is the criterion of a number, if there is one
abbrev pub named-if : Result Criterion NoCriterion → code.Option Wanted
named-if (Ok c) = code.Some (Named c)
named-if (Err e) = code.None

pub wanted_numbered : (n : ℕ) → wanted_in (wanted_of n) ≡ named-if (criterion_numbered n)
wanted_numbered zero = refl
wanted_numbered (suc zero) = refl
wanted_numbered (suc (suc zero)) = refl
wanted_numbered (suc (suc (suc zero))) = refl
wanted_numbered (suc (suc (suc (suc zero)))) = refl
wanted_numbered (suc (suc (suc (suc (suc zero))))) = refl
wanted_numbered (suc (suc (suc (suc (suc (suc n)))))) = refl

pub weakens-to : (history text : List ℕ) (wanted : ℕ) (buffer : List ℕ) (w : code.Option Wanted) → w ≡ wanted_in (wanted_of wanted)
    → (k : Result Made Unmade) (then : List ℕ) → AnswersTexts w history text buffer k then
    → (verdict_made k ≡ weaken_answer history text wanted buffer) × (is_ok k ≡ eqb (weaken_answer history text wanted buffer).number 0)
    × (length_of k ≡ weaken_length history text wanted buffer) × (then ≡ weaken_bytes history text wanted buffer)
unfolding weaken_answer weaken_length weaken_bytes weakened_text
weakens-to history text wanted buffer w q k then p =
    go (wanted_of wanted) (subst (λ (x : code.Option Wanted). AnswersTexts x history text buffer k then) q p)
  where
    go : (o : Option Criterion) → AnswersTexts (wanted_in o) history text buffer k then
        → let v = made_verdict history text false (weakened_wanted history text o) buffer in
        (verdict_made k ≡ v) × (is_ok k ≡ eqb v.number 0) × (length_of k ≡ length_made v (weakened_wanted history text o)) × (then ≡ bytes_made v (weakened_wanted history text o) buffer)
    go none p = (p.answer, p.made, p.long, p.bytes)
    go (some w) p = (p.answer, p.made, p.long, p.bytes)
