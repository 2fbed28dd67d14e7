-- `next_event` meets its contract: the quick way tells what the line is, or the line is cut and read. Assumes nothing.
use mathlib.Core.Path.{refl}
use borrow.Author.Rules.{rules}
use Rattle.history.specs.Faults.{faulty_event, event_read, event_line}
use Rattle.history.proofs.NextLaws.{next-is}
use Rattle.event_reader.proofs.NextLaws.{first_told}
use Rattle.event_reader.proofs.next.next_event.Goals as goal

pub returns : goal.returns
returns c =
    next-is (event_line c.args.own c.args.objects.now) (faulty_event 2) c.args.text.now event_read refl c.quick_event-quick.result c.next_line.result
    (first_told c.args.own c.args.objects.now c.args.text.now c.quick_event-quick.result c.quick_event-quick.ensures)
    (search rules)
