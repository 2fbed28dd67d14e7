-- `leading_lost` meets its contract: `?` is an answer that was lost. Assumes nothing.
use Rattle.event_reader.proofs.QuickLaws.{lost_first}
use Rattle.event_reader.proofs.next.leading_lost.Goals as goal

pub returns : goal.returns
returns c = lost_first _ c.in_ok-rest.rest _ c.lost_answer.ensures c.in_ok-rest.ensures.cases
