-- `leading_values` meets its contract: the values so far are what the text spells up to the rest. Assumes nothing.
use Rattle.history.specs.Record.{value_bound}
use Rattle.history.proofs.ListedLaws.{Listed}
use Rattle.event_reader.proofs.next.leading_values.Given as goal

abbrev pub invariant-loop-k : goal.invariant-loop-k
invariant-loop-k l = Listed 8 value_bound l.text l.values l.k l.rest
