-- `read_objects` meets its contract: the answer for all lines is the answer for the lines that are left. Assumes nothing.
use Prim.Native.Nat.{◌≤◌, ◌-◌, ◌+◌}
use mathlib.Core.Path.{◌≡◌}
use mathlib.Core.List.{[]}
use lib.ListN.{length, take, drop}
use Rattle.layout.specs.Split.{split}
use Rattle.history.specs.Record.{no_object}
use Rattle.history_reader.specs.ReadHistory.{objects_from}
use Rattle.history.proofs.PadLaws.{Filled}
use Rattle.history_reader.proofs.read.read_objects.Given as goal

abbrev pub invariant-loop-line : goal.invariant-loop-line
invariant-loop-line l = record {
  to : l.start ≤ length l.text;
  filled : Filled 16 no_object l.objects l.declared;
  says : objects_from [] 2 l.from (split 10 (drop l.from l.text)) ≡ objects_from (take l.declared l.objects) (l.declared + 2) l.start (split 10 (drop l.start l.text));
}

abbrev pub decreases-loop-line : goal.decreases-loop-line
decreases-loop-line l = length l.text - l.start
