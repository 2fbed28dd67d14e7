-- `weaken` meets its contract: what is wanted is the criterion of the number, if there is one. Assumes nothing.
use Rattle.weakener.proofs.TextLaws.{weakens-to}
use Rattle.weakener.proofs.weaken.weaken.Goals as goal

pub returns : goal.returns
returns c =
    let p = weakens-to c.args.history.now c.args.text.now c.args.wanted c.args.buffer.now _ c.wanted_of.ensures c.make.result _ c.make.ensures in
    record { answer = p.0; made = p.1; length = p.2; bytes = p.3 }
