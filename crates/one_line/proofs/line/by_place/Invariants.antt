-- `by_place` meets its contract: the line so far has the events of the places below m. Assumes nothing.
use Rattle.std.proofs.Common.{◌≡◌, length, get_or}
use Rattle.certificate.specs.Record.{event_list_of}
use Rattle.criteria.specs.OneLine.{by_place}
use Rattle.one_line.proofs.line.by_place.Given as goal

abbrev pub invariant-loop-m : goal.invariant-loop-m
invariant-loop-m l = l.line ≡ event_list_of (by_place (length l.places) (λ e. get_or l.places e 0) l.m)
