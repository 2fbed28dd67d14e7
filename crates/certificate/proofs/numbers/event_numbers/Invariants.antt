-- `event_numbers` meets its contract: the numbers so far are the first events. Assumes nothing.
use mathlib.Core.Path.{◌≡◌}
use Rattle.certificate.specs.Criteria.{count_from}
use Rattle.certificate.specs.Steps.Numbers.{view_numbers_of}
use Rattle.certificate.proofs.numbers.event_numbers.Given as goal

abbrev pub invariant-loop-i : goal.invariant-loop-i
invariant-loop-i l = l.numbers ≡ view_numbers_of (count_from 0 l.i)
