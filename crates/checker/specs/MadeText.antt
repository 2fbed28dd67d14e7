-- A certificate text made of an accepted one (document 01, "Weaken"; document 02, T-11): what is answered, the length and the buffer.
use Rattle.std.specs.Prelude.{ℕ, ◌≡◌, Bool, cond, List, [], length, eqb, leb}
use Rattle.std.proofs.Math.Option.{Option, none, some}
use Rattle.layout.specs.Fill.{fill}
use Rattle.history.specs.declared.record.Event.{Event}
use Rattle.history_reader.specs.Place.{nowhere}
use Rattle.certificate.specs.declared.record.Criterion.{Criterion}
use Rattle.certificate.specs.Criteria.{view_numbers}
use Rattle.certificate.specs.CertificateText.{text_of}
use Rattle.certificate_reader.specs.ReadCertificate.{read_certificate}
use Rattle.criteria.specs.Certificate.{Certificate}
use Rattle.checker.specs.CheckText.{Verdict, refused, checked, certificate_read, check_text}

-- The certificate text of lists, of a history with these events.
abbrev pub text_of_lists : List Event → Certificate → List ℕ
text_of_lists es d = text_of d.criterion (view_numbers d.criterion es) d.pasts d.views

abbrev pub text_if_some : List Event → Option Certificate → Option (List ℕ)
text_if_some es none = none
text_if_some es (some d) = some (text_of_lists es d)

-- An answer that carries no place: "every other number carries no text, line, view or event".
abbrev pub plain : Criterion → ℕ → Verdict
plain c number = checked nowhere c record { number = number; view = none; event = none }

-- Both texts are read: v is their check, c the criterion named, and t the text made, none where the certificate is not of the sort that
-- it is made of. "17: not a pair below; 11 to 16; 18", and 20 as in the check. `crossing` says that one line is wanted and the causal
-- order leaves two updates unordered: 26, "after the check and before 18".
abbrev pub made_answer : Verdict → Criterion → Bool → Option (List ℕ) → List ℕ → Verdict
made_answer v c crossing none buffer = plain c 17
made_answer v c crossing (some t) buffer =
    cond (eqb v.number 0) (cond crossing (plain c 26) (cond (leb (length t) (length buffer)) v (plain c 18))) v

abbrev pub bytes_of : Option (List ℕ) → List ℕ
bytes_of none = []
bytes_of (some t) = t

-- "On success the text fills the buffer's first bytes, the rest of the buffer unchanged, and its length is given. On refusal no byte
-- changes and the length is 0."
abbrev pub length_made : Verdict → Option (List ℕ) → ℕ
length_made v t = cond (eqb v.number 0) (length (bytes_of t)) 0

abbrev pub bytes_made : Verdict → Option (List ℕ) → List ℕ → List ℕ
bytes_made v t buffer = cond (eqb v.number 0) (fill (bytes_of t) buffer) buffer

-- On texts: "reading refusals as in the check" come first.
abbrev pub made_verdict : List ℕ → List ℕ → Bool → Option (List ℕ) → List ℕ → Verdict
made_verdict history text crossing t buffer =
    cond (eqb (read_certificate history text).fault 0)
    (made_answer (check_text history text) (certificate_read history text).criterion crossing t buffer)
    (refused (read_certificate history text))

-- What becomes of a buffer, with the answer and the length: exactly the text in its first bytes and the rest as it was; or a refusal, and no
-- byte changed.
pub record Written (answered : Verdict) (given : ℕ) (after : List ℕ) (c : Criterion) (t buffer : List ℕ) : Type 0 where
  pub answer : answered ≡ plain c 0
  pub long : given ≡ length t
  pub bytes : after ≡ fill t buffer

pub record Unwritten (answered : Verdict) (given : ℕ) (after : List ℕ) (c : Criterion) (number : ℕ) (buffer : List ℕ) : Type 0 where
  pub answer : answered ≡ plain c number
  pub long : given ≡ 0
  pub bytes : after ≡ buffer
