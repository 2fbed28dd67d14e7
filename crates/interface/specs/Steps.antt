-- What the places are asked of a verdict, and an answer as a number and a length.
use Rattle.std.specs.Prelude.{ℕ, ◌≤◌, Result, Ok, Err}
use Rattle.history_reader.specs.Place.{Place}

-- A place whose numbers fit 32 bits, with one of them left for none.
pub record SmallPlace (p : Place) : Type 0 where
  pub line : p.line ≤ 4294967294
  pub from : p.start ≤ p.end
  pub end : p.end ≤ 32768

-- The number of an answer, 0 where there is a text, and the length of the text, 0 where there is none.
abbrev pub number_given : Result ℕ ℕ → ℕ
number_given (Ok n) = 0
number_given (Err k) = k

abbrev pub length_given : Result ℕ ℕ → ℕ
length_given (Ok n) = n
length_given (Err k) = 0
