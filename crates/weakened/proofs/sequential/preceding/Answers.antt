-- `preceding` meets its contract. Assumes nothing.
use Rattle.weakened.proofs.SequentialLaws.{preceding-done}
use Rattle.weakened.proofs.sequential.preceding.Goals as goal

pub returns : goal.returns
returns c =
    preceding-done c.args.view.now.events.now c.before_event.result.now c.args.e c.marks.result c.rising.result c.requires c.before_event.ensures.0 c.marks.ensures c.rising.ensures.0
