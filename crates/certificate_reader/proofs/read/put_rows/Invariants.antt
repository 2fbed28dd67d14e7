-- `put_rows` meets its contract: the first places hold what is made of the first views. Assumes nothing.
use mathlib.Core.Path.{◌≡◌}
use mathlib.Core.List.{map}
use lib.ListN.{length, take}
use Rattle.certificate.specs.declared.record.EventList.{EventList}
use Rattle.certificate_reader.proofs.read.put_rows.Given as goal

abbrev pub invariant-loop-i : goal.invariant-loop-i
invariant-loop-i l = record {
  long : length l.lengths ≡ 64;
  tall : length l.rows ≡ 64;
  lengths_are : take l.i l.lengths ≡ map (λ (v : EventList). v.count) (take l.i l.views);
  rows_are : take l.i l.rows ≡ map (λ (v : EventList). v.events) (take l.i l.views);
}
