-- `put_rows` meets its contract: the first places hold what is made of the first views. Assumes nothing.
use native.Mathlib.Omega.{arith}
use borrow.Author.Rules.{rules}
use mathlib.Core.Path.{◌≡◌, ◌∙◌}
use lib.ListN.{length, length-set}
use Rattle.certificate.specs.declared.record.EventList.{EventList}
use Rattle.certificate_reader.proofs.KeepLaws.{set-mapped, all-mapped}
use Rattle.certificate_reader.proofs.read.put_rows.Goals as goal

pub loop-i-preserved : goal.loop-i-preserved
loop-i-preserved c =
    let views : length c.args.views.now ≡ 64 = search rules in record {
      long = length-set c.loop-i.lengths c.loop-i.i _ ∙ c.loop-i.invariant.long;
      tall = length-set c.loop-i.rows c.loop-i.i _ ∙ c.loop-i.invariant.tall;
      lengths_are = set-mapped (λ (v : EventList). v.count) c.loop-i.lengths c.args.views.now c.loop-i.i _ c.loop-i.invariant.lengths_are (omega arith) (omega arith);
      rows_are = set-mapped (λ (v : EventList). v.events) c.loop-i.rows c.args.views.now c.loop-i.i _ c.loop-i.invariant.rows_are (omega arith) (omega arith);
    }

pub returns : goal.returns
returns c =
    let views : length c.args.views.now ≡ 64 = search rules in (
      all-mapped (λ (v : EventList). v.count) c.loop-i.lengths c.args.views.now c.loop-i.i c.loop-i.invariant.lengths_are (omega arith) (omega arith),
      all-mapped (λ (v : EventList). v.events) c.loop-i.rows c.args.views.now c.loop-i.i c.loop-i.invariant.rows_are (omega arith) (omega arith),
    )
