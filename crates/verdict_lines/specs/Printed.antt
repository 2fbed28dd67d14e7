-- The two lines of a verdict (document 01, "The program"): "a line of names and a line of values, `-` where there is none: answer,
-- criterion, text (`history` or `certificate`), line, view, event".
use Rattle.std.specs.Prelude.{ℕ, List, [], ◌∷◌, ◌++◌, length}
use Rattle.std.proofs.Math.Option.{Option, none, some}
use Rattle.layout.specs.Word.{dash}
use Rattle.layout.specs.Number.{spell}
use Rattle.history.specs.Record.{pad}
use Rattle.certificate.specs.declared.record.Criterion.{Criterion}
use Rattle.certificate.specs.Criteria.{word_of}
use Rattle.history_reader.specs.Place.{Text, Neither, HistoryText, CertificateText, line_of}
use Rattle.checker.specs.CheckText.{Verdict}
use Rattle.verdict_lines.specs.declared.print.Printed.{Printed}

-- `answer criterion text line view event` and a line feed.
abbrev pub names : List ℕ
names =
    97 ∷ 110 ∷ 115 ∷ 119 ∷ 101 ∷ 114 ∷ 32 ∷ 99 ∷ 114 ∷ 105 ∷ 116 ∷ 101 ∷ 114 ∷ 105 ∷ 111 ∷ 110 ∷ 32 ∷ 116 ∷ 101 ∷ 120 ∷ 116 ∷ 32 ∷ 108 ∷ 105 ∷ 110
    ∷ 101 ∷ 32 ∷ 118 ∷ 105 ∷ 101 ∷ 119 ∷ 32 ∷ 101 ∷ 118 ∷ 101 ∷ 110 ∷ 116 ∷ 10 ∷ []

-- `history`, `certificate`, or a dash.
abbrev pub text_word : Text → List ℕ
text_word Neither = dash
text_word HistoryText = 104 ∷ 105 ∷ 115 ∷ 116 ∷ 111 ∷ 114 ∷ 121 ∷ []
text_word CertificateText = 99 ∷ 101 ∷ 114 ∷ 116 ∷ 105 ∷ 102 ∷ 105 ∷ 99 ∷ 97 ∷ 116 ∷ 101 ∷ []

abbrev pub criterion_word : Option Criterion → List ℕ
criterion_word none = dash
criterion_word (some c) = word_of c

abbrev pub number_word : Option ℕ → List ℕ
number_word none = dash
number_word (some n) = spell n

unfoldable pub values : Verdict → List ℕ
values v =
    spell v.number ++ 32 ∷ criterion_word v.criterion ++ 32 ∷ text_word v.place.text ++ 32 ∷ number_word (line_of v.place) ++ 32
    ∷ number_word v.view ++ 32 ∷ number_word v.event ++ 10 ∷ []

unfoldable pub printed : Verdict → List ℕ
printed v = names ++ values v

-- The two lines in an array of 128 bytes, with zeros behind them, and their length.
abbrev pub printed_in : Verdict → Printed
printed_in v = record { length = length (printed v); bytes = pad 128 0 (printed v) }
