-- The certificate text as a printer: the text of a record (document 01, "Certificate text").
use Rattle.std.specs.Prelude.{ℕ, cond, List, [], ◌∷◌, ◌++◌, length}
use Rattle.layout.specs.Word.{criterion_word, past_heading, view_heading}
use Rattle.layout.specs.Number.{spell}
use Rattle.layout.specs.List.{list_text}
use Rattle.history.specs.declared.record.Event.{Event}
use Rattle.history.specs.HistoryText.{lines_text}
use Rattle.certificate.specs.declared.record.Criterion.{Criterion}
use Rattle.certificate.specs.declared.record.Certificate.{Certificate}
use Rattle.certificate.specs.Record.{pasts_in, views_in}
use Rattle.certificate.specs.Criteria.{word_of, has_pasts, count_from, view_numbers, past_count}

-- A line of a number and a list of events, and the lines of several.
unfoldable pub list_line : ℕ → List ℕ → List ℕ
list_line own xs = spell own ++ 32 ∷ list_text xs

unfoldable pub list_lines : List ℕ → List (List ℕ) → List (List ℕ)
list_lines [] ls = []
list_lines (n ∷ ns) [] = []
list_lines (n ∷ ns) (l ∷ ls) = list_line n l ∷ list_lines ns ls

-- The first line.
unfoldable pub criterion_text : Criterion → List ℕ
criterion_text c = criterion_word ++ 32 ∷ word_of c

-- The lines after the first: the pasts, where the criterion has them, numbered from 0; then the views with their numbers.
unfoldable pub view_part : List ℕ → List (List ℕ) → List (List ℕ)
view_part numbers views = view_heading ∷ list_lines numbers views

unfoldable pub past_part : List (List ℕ) → List (List ℕ)
past_part pasts = past_heading ∷ list_lines (count_from 0 (length pasts)) pasts

-- The text of pasts and of views with these numbers.
unfoldable pub text_of : Criterion → List ℕ → List (List ℕ) → List (List ℕ) → List ℕ
text_of c numbers pasts views =
    lines_text (criterion_text c ∷ cond (has_pasts c) (past_part pasts ++ view_part numbers views) (view_part numbers views))

-- The text of a record and its rows, of a history with these events.
unfoldable pub certificate_text : List Event → Certificate → List (List ℕ) → List ℕ
certificate_text es c rows =
    text_of c.criterion (view_numbers c.criterion es) (pasts_in (past_count c.criterion es) c)
    (views_in (length (view_numbers c.criterion es)) c rows)
