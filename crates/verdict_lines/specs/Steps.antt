-- The line of values as its fields.
use Rattle.std.specs.Prelude.{ℕ, List, [], ◌∷◌}
use Rattle.std.proofs.Math.Option.{Option, none, some}
use Rattle.layout.specs.Word.{dash}
use Rattle.layout.specs.Number.{spell}
use Rattle.certificate.specs.declared.record.Criterion as code
use Rattle.certificate.specs.Criteria.{word_of}
use Rattle.history_reader.specs.declared.place.Text.TheVariants as texts
use Rattle.history_reader.specs.Place.{Text, Neither, HistoryText, CertificateText, text_in, line_of}
use Rattle.checker.specs.CheckText.{Verdict}
use Rattle.verdict_lines.specs.declared.line.Field.{Field}
use Rattle.verdict_lines.specs.declared.line.Field.TheVariants as fields
use Rattle.verdict_lines.specs.Printed.{text_word}

abbrev pub field_text : Field → List ℕ
field_text fields.Dash = dash
field_text (fields.Number n) = spell n
field_text (fields.Criterion c) = word_of c
field_text (fields.Text t) = text_word (text_in t)

-- The field of a number, of a criterion or of a text that may be missing.
abbrev pub number_field : Option ℕ → Field
number_field none = fields.Dash
number_field (some n) = fields.Number n

abbrev pub criterion_field : Option code.Criterion → Field
criterion_field none = fields.Dash
criterion_field (some c) = fields.Criterion c

abbrev pub text_field : Text → Field
text_field Neither = fields.Dash
text_field HistoryText = fields.Text texts.History
text_field CertificateText = fields.Text texts.Certificate

-- The six fields of a verdict.
unfoldable pub fields_of : Verdict → List Field
fields_of v =
    fields.Number v.number ∷ criterion_field v.criterion ∷ text_field v.place.text ∷ number_field (line_of v.place) ∷ number_field v.view
    ∷ number_field v.event ∷ []
