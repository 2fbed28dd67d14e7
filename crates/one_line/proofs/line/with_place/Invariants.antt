-- `with_place` meets its contract: the line so far has the events of the places below m, and those of the first events that are at m.
-- Assumes nothing.
use Rattle.std.proofs.Common.{◌≡◌, length, get_or}
use Rattle.certificate.specs.Record.{event_list_of}
use Rattle.one_line.proofs.LineLaws.{line_to}
use Rattle.one_line.proofs.line.with_place.Given as goal

abbrev pub invariant-loop-e : goal.invariant-loop-e
invariant-loop-e l = l.line ≡ event_list_of (line_to (length l.places) (λ f. get_or l.places f 0) l.m l.e)
