-- Orders and sets of events as rows of 64 bits.
use Rattle.std.specs.Prelude.{ℕ, ◌/◌, ◌%◌, ◌^◌, ◌≤◌, ◌<◌, ◌≡◌, Bool, ◌&&◌, List, [], get_or, take, eqb, ltb}
use Rattle.certificate.specs.declared.record.EventList.{EventList}

-- The set of a row: event e is in it where bit e is 1. The order of rows: row b says which events come before b.
unfoldable pub in_row : ℕ → ℕ → Bool
in_row row e = eqb (row / 2 ^ e % 2) 1

abbrev pub in_rows : List ℕ → ℕ → ℕ → Bool
in_rows rows a b = in_row (get_or rows b 0) a

-- A list of at most 64 numbers, each below 64.
pub record ShortList (l : EventList) : Type 0 where
  pub few : l.count ≤ 64
  pub entries : (k : ℕ) → k < l.count → get_or l.events k 0 < 64

-- The first m views, by their lengths: each has at most 64 entries, each one of the first n events.
pub record EventViews (views : List (List ℕ)) (lengths : List ℕ) (m n : ℕ) : Type 0 where
  pub few : (k : ℕ) → k < m → get_or lengths k 0 ≤ 64
  pub entries : (k : ℕ) → k < m → (i : ℕ) → i < get_or lengths k 0 → get_or (get_or views k []) i 0 < n

-- The view of number k, cut to its length.
abbrev pub view_at : List (List ℕ) → List ℕ → ℕ → List ℕ
view_at views lengths k = take (get_or lengths k 0) (get_or views k [])

-- Rows are an order.
abbrev pub IsOrder : List ℕ → (ℕ → ℕ → Bool) → Type 0
IsOrder rows R = (a b : ℕ) → in_rows rows a b ≡ R a b

-- Program order of the first n events by their processes: a comes before b when both are of one process and a has the smaller number.
abbrev pub program_in : ℕ → List ℕ → ℕ → ℕ → Bool
program_in n ps a b = ltb a b && ltb b n && eqb (get_or ps a 0) (get_or ps b 0)
