-- `quick_entries` meets its contract: the entries so far are what the text spells up to the rest. Assumes nothing.
use Rattle.certificate.specs.Steps.Lists.{is_past}
use Rattle.certificate.proofs.NextLaws.{Reading}
use Rattle.certificate.proofs.next.quick_entries.Given as goal

abbrev pub invariant-loop-k : goal.invariant-loop-k
invariant-loop-k l = Reading (is_past l.part.sort) l.part.count l.text l.events l.k l.rest l.low
