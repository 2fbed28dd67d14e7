-- `process_numbers` meets its contract: the numbers so far are the processes before p that have events. Assumes nothing.
use Rattle.certificate.proofs.NumberingLaws.{Gathered}
use Rattle.certificate.proofs.numbers.process_numbers.Given as goal

abbrev pub invariant-loop-p : goal.invariant-loop-p
invariant-loop-p l = Gathered l.events l.numbers l.p
