-- How the functions do it. Only private functions' contracts and proofs cite these.
use Rattle.std.specs.Prelude.{ℕ, ◌+◌, ◌≤◌, ◌≡◌, List, [], length, take, drop, Result, Ok, Err}
use Rattle.layout.specs.Split.{split}
use Rattle.history_reader.specs.declared.objects.Declared.{Declared}
use Rattle.history_reader.specs.declared.read.Refusal.{Refusal}
use Rattle.history_reader.specs.ReadHistory.{HistoryRead, history_read, events_from}

-- What the lines of the objects say of the whole text: it is what the lines of its events say, or it is refused.
pub record ObjectsDone (whole : HistoryRead) (text : List ℕ) (d : Declared) : Type 0 where
  pub to : d.end ≤ length text
  pub says : whole ≡ events_from (take d.declared d.objects) [] (d.declared + 3) d.end (split 10 (drop d.end text))

abbrev pub ObjectsRead : HistoryRead → List ℕ → Result Declared Refusal → Type 0
ObjectsRead whole text (Ok d) = ObjectsDone whole text d
ObjectsRead whole text (Err r) = whole ≡ history_read (Err r)
