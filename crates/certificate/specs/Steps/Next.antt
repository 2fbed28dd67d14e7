-- What the reader keeps of the line of a list that a text begins with.
use Rattle.std.specs.Prelude.{ℕ, ◌≤◌, ◌≡◌, Bool, true, not, ◌||◌, List, ◌∷◌, ◌++◌, length}
use Rattle.layout.specs.List.{list_text}
use Rattle.history.specs.Readable.{all_less}
use Rattle.history.specs.Steps.Next.{line_read}
use Rattle.certificate.specs.declared.record.EventList.{EventList}
use Rattle.certificate.specs.Record.{no_list, event_list_of}
use Rattle.certificate.specs.Faults.{rising}
use Rattle.certificate.specs.CertificateText.{list_line}
use Rattle.certificate.specs.Steps.Lists.{ListLine, list_read}

-- What the line is that a text begins with: its list, or its first fault. A line without a line feed has fault 2.
abbrev pub next_read : Bool → ℕ → ℕ → List ℕ → ListLine
next_read past count own text = line_read (list_read past count own) (record { fault = 2; list = no_list }) text

-- A list that a line may say without a fault: no more entries than events, each an event, and a past strictly rising.
pub record Good (past : Bool) (count : ℕ) (xs : List ℕ) : Type 0 where
  pub few : length xs ≤ count
  pub small : all_less count xs ≡ true
  pub order : not past || rising xs ≡ true

-- A text begins with such a list, which is l, and a line feed, and the rest stands behind it.
pub record ListFirst (past : Bool) (count : ℕ) (text : List ℕ) (l : EventList) (rest : List ℕ) : Type 0 where
  pub entries : List ℕ
  pub good : Good past count entries
  pub spelt : text ≡ list_text entries ++ 10 ∷ rest
  pub told : l ≡ event_list_of entries

-- The same of a line: a number, a space and such a list.
pub record LineFirst (past : Bool) (count own : ℕ) (text : List ℕ) (l : EventList) (rest : List ℕ) : Type 0 where
  pub entries : List ℕ
  pub good : Good past count entries
  pub spelt : text ≡ list_line own entries ++ 10 ∷ rest
  pub told : l ≡ event_list_of entries
