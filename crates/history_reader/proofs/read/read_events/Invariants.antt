-- `read_events` meets its contract: the answer for all lines is the answer for the lines that are left. Assumes nothing.
use Prim.Native.Nat.{◌≤◌, ◌-◌, ◌+◌}
use mathlib.Core.Path.{◌≡◌}
use mathlib.Core.List.{[]}
use lib.ListN.{length, take, drop}
use Rattle.layout.specs.Split.{split}
use Rattle.history.specs.Record.{no_event}
use Rattle.history_reader.specs.ReadHistory.{events_from}
use Rattle.history.proofs.PadLaws.{Filled}
use Rattle.history_reader.proofs.read.read_events.Given as goal

abbrev pub invariant-loop-start : goal.invariant-loop-start
invariant-loop-start l = record {
  to : l.start ≤ length l.text;
  filled : Filled 64 no_event l.events l.count;
  says : events_from (take l.fn.read.declared l.fn.read.objects) [] (l.fn.read.declared + 3) l.fn.read.end (split 10 (drop l.fn.read.end l.text))
      ≡ events_from (take l.fn.read.declared l.fn.read.objects) (take l.count l.events) (l.fn.read.declared + l.count + 3) l.start (split 10 (drop l.start l.text));
}

abbrev pub decreases-loop-start : goal.decreases-loop-start
decreases-loop-start l = length l.text - l.start
