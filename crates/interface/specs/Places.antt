-- The places of a verdict as numbers: criterion, text, line, view, event, and the line as its start and its length within that text.
-- 4,294,967,295 stands for none.
use Rattle.std.specs.Prelude.{ℕ, ◌-◌, List, [], ◌∷◌, ◌++◌, length, take, drop}
use Rattle.std.proofs.Math.Option.{Option, none, some}
use Rattle.certificate.specs.declared.record.Criterion.{Criterion}
use Rattle.certificate.specs.declared.record.Criterion.TheVariants.{Pram, Weak, Causal, Converge, Sequential, Strict}
use Rattle.history_reader.specs.Place.{Text, Neither, HistoryText, CertificateText, line_of}
use Rattle.faults.specs.Finding.{or_none}
use Rattle.checker.specs.CheckText.{Verdict}

-- "criterion wanted: pram 0, weak 1, causal 2, converge 3, sequential 4"; strict is 5 (document 02, T-06).
abbrev pub criterion_number : Criterion → ℕ
criterion_number Pram = 0
criterion_number Weak = 1
criterion_number Causal = 2
criterion_number Converge = 3
criterion_number Sequential = 4
criterion_number Strict = 5

abbrev pub criterion_place : Option Criterion → Option ℕ
criterion_place none = none
criterion_place (some c) = some (criterion_number c)

abbrev pub text_number : Text → ℕ
text_number Neither = 0
text_number HistoryText = 1
text_number CertificateText = 2

abbrev pub places_of : Verdict → List ℕ
places_of v =
    or_none (criterion_place v.criterion) ∷ text_number v.place.text ∷ or_none (line_of v.place) ∷ or_none v.view ∷ or_none v.event
    ∷ v.place.start ∷ (v.place.end - v.place.start) ∷ []

-- A slice afterwards: filled as far as it goes, in that order, and left alone past it.
unfoldable pub placed : List ℕ → List ℕ → List ℕ
placed all slots = take (length slots) all ++ drop (length all) slots
