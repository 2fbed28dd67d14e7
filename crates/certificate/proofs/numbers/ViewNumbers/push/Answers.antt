-- `push` meets its contract: the number stands in the first place that was not used. Assumes nothing.
use Rattle.certificate.proofs.NumberingLaws.{numbers-pushed}
use Rattle.certificate.proofs.numbers.ViewNumbers.push.Goals as goal

pub returns : goal.returns
returns c = λ ns is. numbers-pushed c.args.self.now ns c.args.number c.requires is
