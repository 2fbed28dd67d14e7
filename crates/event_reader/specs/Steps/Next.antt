-- What the reader keeps of the line of an event that a text begins with.
use Rattle.std.specs.Prelude.{ℕ, ◌<◌, ◌≡◌, true, List, ◌∷◌, ◌++◌}
use Rattle.history.specs.declared.record.Object.{Object}
use Rattle.history.specs.declared.record.Op.{Op}
use Rattle.history.specs.declared.record.Event.{Event}
use Rattle.history.specs.declared.record.Answer.{Answer}
use Rattle.history.specs.Faults.{EventRead, faulty_event, event_line}
use Rattle.history.specs.Kinds.{may_answer}
use Rattle.history.specs.HistoryText.{answer_text, event_text}
use Rattle.history.specs.Readable.{good_answer, good_event}
use Rattle.history.specs.Steps.Next.{line_read}

-- What the line is that a text begins with: its event, or its first fault. A line without a line feed has fault 2.
abbrev pub next_read : ℕ → List Object → List ℕ → EventRead
next_read own os text = line_read (event_line own os) (faulty_event 2) text

-- A text begins with an answer and a line feed, and the rest stands behind it; the answer is within its limits where the op can give it.
pub record AnswerFirst (text : List ℕ) (a : Answer) (rest : List ℕ) : Type 0 where
  pub good : (object : Object) (op : Op) → may_answer object op a ≡ true → good_answer object op a ≡ true
  pub spelt : text ≡ answer_text a ++ 10 ∷ rest

-- A text begins with the line of a good event, and the rest stands behind it.
pub record EventFirst (own : ℕ) (os : List Object) (text : List ℕ) (e : Event) (rest : List ℕ) : Type 0 where
  pub numbered : own < 64
  pub good : good_event os e ≡ true
  pub spelt : text ≡ event_text own e ++ 10 ∷ rest
