-- What a text begins with, and what stands behind it.
use Rattle.std.specs.Prelude.{ℕ, List, [], ◌∷◌, length, take, drop, cond, Option, Some, None, Result, Ok, Err}
use Rattle.layout.specs.Word.{same}
use Rattle.layout.specs.Number.{number_of}
use Rattle.layout.specs.Steps.Number.{digits}
use Rattle.layout.specs.declared.number.NumberFault.{NumberFault}

-- A number that was read, with what stands behind it; nothing where none was.
abbrev pub told : Result ℕ NumberFault → List ℕ → Option (ℕ × List ℕ)
told (Ok v) rest = Some (v, rest)
told (Err f) rest = None

-- The number below a bound that the digits at the start of a text are, and what stands behind them.
unfoldable pub leading_number : ℕ → List ℕ → Option (ℕ × List ℕ)
leading_number bound text = told (number_of bound (digits text)) (drop (length (digits text)) text)

-- The same where a space stands behind the number, with the space taken off.
abbrev pub behind_space : Option (ℕ × List ℕ) → Option (ℕ × List ℕ)
behind_space None = None
behind_space (Some r) = cond (same (take 1 r.1) (32 ∷ [])) (Some (r.0, drop 1 r.1)) None

-- The number below a bound that a text begins with and that has a space behind it, and what stands behind the space.
unfoldable pub number_before_space : ℕ → List ℕ → Option (ℕ × List ℕ)
number_before_space bound text = behind_space (leading_number bound text)
