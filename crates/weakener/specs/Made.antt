-- The verdict that an answer of the code stands for, and its length.
use Rattle.std.specs.Prelude.{ℕ, Result, Ok, Err}
use Rattle.history.specs.Faults.{fault_number}
use Rattle.history_reader.specs.Place.{line_place}
use Rattle.checker.specs.CheckText.{Verdict, refused_at}
use Rattle.checker.specs.Verdict.{checked_as}
use Rattle.checker.specs.MadeText.{plain}
use Rattle.weakener.specs.declared.made.Made.{Made}
use Rattle.weakener.specs.declared.made.Unmade.{Unmade}
use Rattle.weakener.specs.declared.made.Unmade.TheVariants.{Refused, NotPair, Faulty, Crossing, TooShort}

-- 0, 17, 18 and 26 carry no place; any other answer is that of the check.
abbrev pub verdict_made : Result Made Unmade → Verdict
verdict_made (Ok m) = plain m.criterion 0
verdict_made (Err (Refused r)) = refused_at (fault_number r.fault) (line_place r.place)
verdict_made (Err (NotPair c)) = plain c 17
verdict_made (Err (Faulty k)) = checked_as k
verdict_made (Err (Crossing c)) = plain c 26
verdict_made (Err (TooShort c)) = plain c 18

-- "On refusal .. the length is 0."
abbrev pub length_of : Result Made Unmade → ℕ
length_of (Ok m) = m.length
length_of (Err u) = 0
