-- `event_place` meets its contract: the line goes from where its part begins up to its line feed. Assumes nothing.
use Rattle.history_reader.proofs.EventPlaceLaws.{line-ends, line-places}
use Rattle.history_reader.proofs.place.event_place.Goals as goal

pub returns : goal.returns
returns c =
    let k = c.part_start-start.ensures in
    let e = line-ends c.args.text.now c.first_part.result.now c.part_start-start.result k.1 c.first_part.ensures in
    line-places c.args.text.now c.args.declared c.args.e c.part_start-start.result _ k.0 k.1 e.0 e.1 k.2
