-- The verdict that an answer of the code stands for: `answer_of` and `fault_in` state document 01's number and places of each case.
use Rattle.std.specs.Prelude.{Result, Ok, Err}
use Rattle.history.specs.Faults.{fault_number}
use Rattle.history_reader.specs.declared.read.Refusal.{Refusal}
use Rattle.history_reader.specs.Place.{line_place, place_in}
use Rattle.criteria.specs.Check.{answer_of}
use Rattle.faults.specs.Finding.{found_of}
use Rattle.checker.specs.declared.checked.Checked.{Checked}
use Rattle.checker.specs.CheckText.{Verdict, refused_at, checked}

-- Both texts were read.
abbrev pub checked_as : Checked → Verdict
checked_as c = checked (place_in c.place) c.criterion (answer_of (found_of c.finding))

-- A text was refused, or both were read.
abbrev pub verdict_of : Result Checked Refusal → Verdict
verdict_of (Ok c) = checked_as c
verdict_of (Err r) = refused_at (fault_number r.fault) (line_place r.place)
