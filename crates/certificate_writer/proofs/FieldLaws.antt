-- The fields of the lines as they are written. Assumes nothing.
use Prim.Native.Nat.{ℕ}
use mathlib.Core.Path.{◌≡◌}
use mathlib.Core.List.{[], ◌∷◌, ◌++◌, map}
use Rattle.layout.specs.Split.{join}
use Rattle.layout.specs.Word.{criterion_word}
use Rattle.layout.specs.Number.{spell}
use Rattle.layout.specs.List.{list_text}
use Rattle.layout.specs.Fields.{pieces_text}
use Rattle.layout.proofs.LineLaws.{pieces-join}
use Rattle.certificate.specs.Criteria.{word_of}
use Rattle.certificate.specs.declared.record.Criterion as record_criterion
use Rattle.certificate.specs.CertificateText.{list_line, criterion_text}
use Rattle.certificate_writer.specs.declared.events.Events as lent
use Rattle.certificate_writer.specs.declared.line.Field.TheVariants.{Heading, Criterion, Number, Events}
use Rattle.certificate_writer.specs.Steps.Fields.{field_text}

-- the fields of a line are its text and its line feed
pub first_line : (c : record_criterion.Criterion) → pieces_text (map field_text (Heading ∷ Criterion c ∷ [])) ≡ criterion_text c ++ 10 ∷ []
unfolding join field_text criterion_text
first_line c = pieces-join criterion_word (word_of c ∷ [])

pub list_line_is : (own : ℕ) (e : lent.Events) → pieces_text (map field_text (Number own ∷ Events e ∷ [])) ≡ list_line own e.events.now ++ 10 ∷ []
unfolding join field_text list_line
list_line_is own e = pieces-join (spell own) (list_text e.events.now ∷ [])
