-- `put_history` meets its contract: the objects with their heading, and the events with theirs behind them. Assumes nothing.
use Rattle.layout.proofs.PiecesLaws.{text_then}
use Rattle.history_writer.proofs.write.put_history.Goals as goal

pub returns : goal.returns
returns c = text_then _ _ _ _ _ _ _ c.requires c.put_headed-k.ensures.0 c.put_headed-k.ensures.1 c.put_headed.ensures.0 c.put_headed.ensures.1
