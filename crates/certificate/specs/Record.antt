-- The certificate record, the rows of its views beside it, and the lists that they stand for.
use Rattle.std.specs.Prelude.{ℕ, List, [], ◌∷◌, map, length, take, replicate}
use Rattle.history.specs.Record.{pad}
use Rattle.certificate.specs.declared.record.Criterion.{Criterion}
use Rattle.certificate.specs.declared.record.Criterion.TheVariants.{Pram}
use Rattle.certificate.specs.declared.record.EventList.{EventList}
use Rattle.certificate.specs.declared.record.Certificate.{Certificate}

-- What stands in a place that is not used.
abbrev pub no_list : EventList
no_list = record { count = 0; events = replicate 64 0 }

abbrev pub no_row : List ℕ
no_row = replicate 64 0

abbrev pub no_certificate : Certificate
no_certificate = record { criterion = Pram; pasts = replicate 64 no_list; lengths = replicate 64 0 }

-- The record of a list of events, and the row of a view.
unfoldable pub event_list_of : List ℕ → EventList
event_list_of xs = record { count = length xs; events = pad 64 0 xs }

unfoldable pub row_of : List ℕ → List ℕ
row_of xs = pad 64 0 xs

-- The record of a criterion, pasts and views, and the rows of the views.
unfoldable pub certificate_of : Criterion → List (List ℕ) → List (List ℕ) → Certificate
certificate_of c pasts views =
    record { criterion = c; pasts = pad 64 no_list (map event_list_of pasts); lengths = pad 64 0 (map length views) }

unfoldable pub rows_of : List (List ℕ) → List (List ℕ)
rows_of views = pad 64 no_row (map row_of views)

-- The events of a list; the first k pasts of a record; the first k views, each the beginning of its row.
abbrev pub entries_in : EventList → List ℕ
entries_in l = take l.count l.events

abbrev pub pasts_in : ℕ → Certificate → List (List ℕ)
pasts_in k c = map entries_in (take k c.pasts)

unfoldable pub beginnings : List ℕ → List (List ℕ) → List (List ℕ)
beginnings [] rows = []
beginnings (n ∷ ns) [] = []
beginnings (n ∷ ns) (row ∷ rows) = take n row ∷ beginnings ns rows

abbrev pub views_in : ℕ → Certificate → List (List ℕ) → List (List ℕ)
views_in k c rows = beginnings (take k c.lengths) (take k rows)
