-- The limits of a certificate record of a history, and the texts that are readable: said with no reader.
use Rattle.std.specs.Prelude.{ℕ, ◌≤◌, ◌≡◌, Bool, true, false, not, ◌&&◌, ◌||◌, List, [], ◌∷◌, length, take, drop, eqb, leb}
use Rattle.history.specs.declared.record.Event.{Event}
use Rattle.history.specs.Readable.{all_less, all_zero}
use Rattle.certificate.specs.declared.record.EventList.{EventList}
use Rattle.certificate.specs.declared.record.Certificate.{Certificate}
use Rattle.certificate.specs.Record.{entries_in}
use Rattle.certificate.specs.Criteria.{view_numbers, past_count}
use Rattle.certificate.specs.Faults.{rising}
use Rattle.certificate.specs.CertificateText.{certificate_text}

-- Lists of events of a history with `count` events: in each no more than there are, and pasts strictly rising.
unfoldable pub good_lists : Bool → ℕ → List (List ℕ) → Bool
good_lists past count [] = true
good_lists past count (l ∷ ls) = leb (length l) count && all_less count l && (not past || rising l) && good_lists past count ls

-- The first n places of a row are events of a history with `count` events, no more than there are, and the others hold 0.
unfoldable pub good_row : ℕ → ℕ → List ℕ → Bool
good_row count n row = leb n count && all_less count (take n row) && eqb (length row) 64 && all_zero (drop n row)

-- Pasts are such lists, strictly rising; a list that is not used is empty.
unfoldable pub good_pasts : ℕ → List EventList → Bool
good_pasts count [] = true
good_pasts count (l ∷ ls) = good_row count l.count l.events && rising (entries_in l) && good_pasts count ls

unfoldable pub blank_lists : List EventList → Bool
blank_lists [] = true
blank_lists (l ∷ ls) = eqb l.count 0 && eqb (length l.events) 64 && all_zero l.events && blank_lists ls

-- Views are such lists; a row that is not used holds zeros.
unfoldable pub good_rows : ℕ → List ℕ → List (List ℕ) → Bool
good_rows count [] [] = true
good_rows count [] (row ∷ rows) = false
good_rows count (n ∷ ns) [] = false
good_rows count (n ∷ ns) (row ∷ rows) = good_row count n row && good_rows count ns rows

unfoldable pub blank_rows : List (List ℕ) → Bool
blank_rows [] = true
blank_rows (row ∷ rows) = eqb (length row) 64 && all_zero row && blank_rows rows

-- A record and its rows within the limits that the history's events set: so many pasts and views as the criterion has, and
-- zeros in every place that is not used.
unfoldable pub fits : List Event → Certificate → List (List ℕ) → Bool
fits es c rows =
    eqb (length c.pasts) 64 && eqb (length c.lengths) 64 && eqb (length rows) 64
    && good_pasts (length es) (take (past_count c.criterion es) c.pasts)
    && good_rows (length es) (take (length (view_numbers c.criterion es)) c.lengths) (take (length (view_numbers c.criterion es)) rows)
    && blank_lists (drop (past_count c.criterion es) c.pasts)
    && all_zero (drop (length (view_numbers c.criterion es)) c.lengths)
    && blank_rows (drop (length (view_numbers c.criterion es)) rows)

-- A text is readable, given the events of its history: it is the text of some record and rows within their limits, and at most
-- 32,768 bytes long.
pub record Readable (es : List Event) (text : List ℕ) : Type 0 where
  pub certificate : Certificate
  pub rows : List (List ℕ)
  pub within : fits es certificate rows ≡ true
  pub says : certificate_text es certificate rows ≡ text
  pub short : length text ≤ 32768
