-- `leading_answer` meets its contract: `-` is the empty answer. Assumes nothing.
use Rattle.event_reader.proofs.QuickLaws.{none_first}
use Rattle.event_reader.proofs.next.leading_answer.Goals as goal

pub returns-in-Some : goal.returns-in-Some
returns-in-Some c = none_first _ c.in-Some.rest _ c.no_answer.ensures c.in-Some.ensures.cases
