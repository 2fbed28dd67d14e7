-- `lists` meets its contract: what the lines say is what those that are left say, after the lists that are kept. Assumes nothing.
use Rattle.certificate.specs.Steps.Lists.{is_past}
use Rattle.certificate_reader.proofs.KeepLaws.{Reading}
use Rattle.certificate_reader.proofs.left.LinesLeft.lists.Given as goal

abbrev pub invariant-loop-i : goal.invariant-loop-i
invariant-loop-i l = Reading (is_past l.part.sort) l.part.count l.numbers l.fn.self l.lists l.i l.self
