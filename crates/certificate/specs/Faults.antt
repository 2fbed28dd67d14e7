-- The faults of a line of a certificate text (document 01, "Read a certificate"): on a line the first of 2, 3 and 6.
use Rattle.std.specs.Prelude.{ℕ, Bool, true, cond, not, ◌&&◌, ◌||◌, List, [], ◌∷◌, length, get_or, eqb, leb, ltb}
use Rattle.layout.specs.Split.{split}
use Rattle.layout.specs.Word.{same, criterion_word}
use Rattle.layout.specs.Number.{spell}
use Rattle.layout.specs.List.{items_of, all_numbers, all_below, numbers_of}
use Rattle.certificate.specs.Criteria.{is_criterion}

-- A past is strictly rising.
unfoldable pub rising : List ℕ → Bool
rising [] = true
rising (x ∷ []) = true
rising (x ∷ y ∷ ys) = ltb x y && rising (y ∷ ys)

-- The first line: `criterion`, a space and the word of a criterion.
unfoldable pub criterion_line : List ℕ → Bool
criterion_line line =
    eqb (length (split 32 line)) 2 && same (get_or (split 32 line) 0 []) criterion_word && is_criterion (get_or (split 32 line) 1 [])

-- ---- a line of a number and a list of events
-- Its layout: the number is the line's own, and the list is one of numbers.
unfoldable pub list_layout : ℕ → List ℕ → List ℕ → Bool
list_layout own a s = same a (spell own) && all_numbers (items_of s)

-- Every entry is one of the history's `count` events, and there are no more entries than events.
unfoldable pub list_limits : ℕ → List ℕ → Bool
list_limits count s = all_below count (items_of s) && leb (length (items_of s)) count

-- The first fault of the two fields of a line, of a past or of a view.
unfoldable pub pair_fault : Bool → ℕ → ℕ → List ℕ → List ℕ → ℕ
pair_fault past count own a s =
    cond (list_layout own a s) (cond (list_limits count s) (cond (not past || rising (numbers_of s)) 0 6) 3) 2

-- The first fault of a line whose own number is `own`, or 0.
unfoldable pub list_fault : Bool → ℕ → ℕ → List ℕ → ℕ
list_fault past count own line =
    cond (eqb (length (split 32 line)) 2) (pair_fault past count own (get_or (split 32 line) 0 []) (get_or (split 32 line) 1 [])) 2

-- The events that such a line lists.
unfoldable pub list_said : List ℕ → List ℕ
list_said line = numbers_of (get_or (split 32 line) 1 [])
