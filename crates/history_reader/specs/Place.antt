-- Places in the texts: the line that a refusal or an answer carries (document 01, "Check"; document 02, T-05). A `Place` names the text,
-- the number of the line from 1 (0 for a text that is too long), and the line as the bytes from `start` to `end`, without its line feed.
use Rattle.std.specs.Prelude as code
use Rattle.std.specs.Prelude.{ℕ, ◌+◌, ◌-◌, cond, List, [], length, get_or, take, drop, eqb}
use Rattle.std.proofs.Math.Option.{Option, none, some}
use Rattle.layout.specs.Split.{split, part_start}
use Rattle.history_reader.specs.declared.place.Text as code-text
use Rattle.history_reader.specs.declared.place.Text.TheVariants as code-texts
use Rattle.history_reader.specs.declared.place.Place as code-place

-- The text that a place is in.
pub data Text : Type 0 where
  Neither : Text
  HistoryText : Text
  CertificateText : Text

-- A line of a text, where one is named; else the three numbers are 0.
pub record Place : Type 0 where
  pub text : Text
  pub line : ℕ
  pub start : ℕ
  pub end : ℕ

-- "Every other number carries no text, line": the three numbers are 0.
abbrev pub nowhere : Place
nowhere = record { text = Neither; line = 0; start = 0; end = 0 }

-- The code's texts and places, and its option of a place.
abbrev pub text_in : code-text.Text → Text
text_in code-texts.History = HistoryText
text_in code-texts.Certificate = CertificateText
text_in code-texts.Neither = Neither

abbrev pub line_place : code-place.Place → Place
line_place p = record { text = text_in p.text; line = p.line; start = p.start; end = p.end }

abbrev pub place_in : code.Option code-place.Place → Place
place_in code.None = nowhere
place_in (code.Some p) = line_place p

-- A faulty line. It begins at the place `at` and has `size` bytes without its line feed; an empty part starts at 0.
abbrev pub faulty_place : Text → ℕ → ℕ → ℕ → Place
faulty_place text line at size =
    record { text = text; line = line; start = cond (eqb size 0) 0 at; end = cond (eqb size 0) 0 (at + size) }

-- The line of event e, "as part of the history text": two headings and the objects' lines stand before the events', and "its line number is
-- the event's number plus the count of objects plus 3".
abbrev pub event_place : List ℕ → ℕ → ℕ → Place
event_place history declared e =
    record {
      text = HistoryText;
      line = e + declared + 3;
      start = part_start 10 (declared + 2 + e) history;
      end = part_start 10 (declared + 2 + e) history + length (get_or (split 10 history) (declared + 2 + e) []);
    }

-- The number of the line, where a text is named; it is 0 on fault 1.
abbrev pub line_in : Text → ℕ → Option ℕ
line_in Neither line = none
line_in HistoryText line = some line
line_in CertificateText line = some line

abbrev pub line_of : Place → Option ℕ
line_of p = line_in p.text p.line

-- The bytes of a text from a place's start to its end.
abbrev pub bytes_at : Place → List ℕ → List ℕ
bytes_at p text = take (p.end - p.start) (drop p.start text)

-- The one of two texts that is named; nothing where neither is.
abbrev pub text_named : Text → List ℕ → List ℕ → List ℕ
text_named Neither history certificate = []
text_named HistoryText history certificate = history
text_named CertificateText history certificate = certificate

-- The line that a place names, as part of whichever of two texts it is in.
abbrev pub part_at : Place → List ℕ → List ℕ → List ℕ
part_at p history certificate = bytes_at p (text_named p.text history certificate)
