-- `all` meets its contract: the numbers are in their array. Assumes nothing.
use Rattle.certificate.proofs.NumberingLaws.{numbers-in}
use Rattle.certificate.proofs.numbers.ViewNumbers.all.Goals as goal

pub returns-clause-all : goal.returns-clause-all
returns-clause-all c = λ ns is. numbers-in c.args.self.now ns is
