-- The lines as they are written, and the limits of so many pasts and views.
use Rattle.std.specs.Prelude.{ℕ, Bool, cond, ◌&&◌, List, [], ◌∷◌, ◌++◌, length, get_or, take, drop, eqb}
use Rattle.layout.specs.Word.{past_heading, view_heading}
use Rattle.layout.specs.Pieces.{pieces_from}
use Rattle.history.specs.Readable.{all_zero}
use Rattle.certificate.specs.declared.record.Criterion.{Criterion}
use Rattle.certificate.specs.declared.record.EventList.{EventList}
use Rattle.certificate.specs.declared.record.Certificate.{Certificate}
use Rattle.certificate.specs.Record.{no_list, entries_in}
use Rattle.certificate.specs.Criteria.{has_pasts}
use Rattle.certificate.specs.CertificateText.{list_line, criterion_text}
use Rattle.certificate.specs.Readable.{good_pasts, blank_lists, good_rows, blank_rows}

-- The limits of a record with k pasts and m views, of a history with `count` events.
unfoldable pub parts_fit : ℕ → ℕ → ℕ → Certificate → List (List ℕ) → Bool
parts_fit count k m c rows =
    eqb (length c.pasts) 64 && eqb (length c.lengths) 64 && eqb (length rows) 64
    && good_pasts count (take k c.pasts)
    && good_rows count (take m c.lengths) (take m rows)
    && blank_lists (drop k c.pasts)
    && all_zero (drop m c.lengths)
    && blank_rows (drop m rows)

-- The first line, its line feed too.
abbrev pub first_bytes : Criterion → List ℕ
first_bytes c = criterion_text c ++ 10 ∷ []

-- The line of a number and a list, its line feed too.
abbrev pub line_bytes : ℕ → List ℕ → List ℕ
line_bytes own xs = list_line own xs ++ 10 ∷ []

-- The line of the past i.
abbrev pub past_piece : List EventList → ℕ → List ℕ
past_piece pasts i = line_bytes i (entries_in (get_or pasts i no_list))

-- The line of the view i.
abbrev pub view_piece : List ℕ → List ℕ → List (List ℕ) → ℕ → List ℕ
view_piece numbers lengths rows i = line_bytes (get_or numbers i 0) (take (get_or lengths i 0) (get_or rows i []))

-- The part of pasts, where the criterion has pasts, and the part of views.
abbrev pub past_bytes : Criterion → List EventList → List ℕ
past_bytes c pasts = cond (has_pasts c) ((past_heading ++ 10 ∷ []) ++ pieces_from (past_piece pasts) 0 (length pasts)) []

abbrev pub view_bytes : List ℕ → List ℕ → List (List ℕ) → List ℕ
view_bytes numbers lengths rows = (view_heading ++ 10 ∷ []) ++ pieces_from (view_piece numbers lengths rows) 0 (length numbers)
