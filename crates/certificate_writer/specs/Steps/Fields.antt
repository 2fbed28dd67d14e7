-- The fields of a line as they are written.
use Rattle.std.specs.Prelude.{ℕ, List}
use Rattle.layout.specs.Word.{criterion_word}
use Rattle.layout.specs.Number.{spell}
use Rattle.layout.specs.List.{list_text}
use Rattle.certificate.specs.Criteria.{word_of}
use Rattle.certificate_writer.specs.declared.line.Field.{Field}
use Rattle.certificate_writer.specs.declared.line.Field.TheVariants.{Heading, Criterion, Number, Events}

-- The text of a field.
unfoldable pub field_text : Field → List ℕ
field_text Heading = criterion_word
field_text (Criterion c) = word_of c
field_text (Number n) = spell n
field_text (Events e) = list_text e.events.now
