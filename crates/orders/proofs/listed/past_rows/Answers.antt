-- `past_rows` meets its contract: the rows so far are the order of the first i pasts. Assumes nothing.
use Rattle.std.proofs.Common.{refl, ◌∙◌, arith, length-set}
use Rattle.orders.proofs.ListedLaws.{rows-begin, rows_more, past_small}
use Rattle.orders.proofs.listed.past_rows.Goals as goal

pub loop-i-init : goal.loop-i-init
loop-i-init c = (refl, rows-begin c.args.pasts.now)

pub invariant_of-listed-clause-few : goal.invariant_of-listed-clause-few
invariant_of-listed-clause-few c = rw c.entries.ensures (past_small c.args.pasts.now c.loop-i.i _ c.loop-i-test.true c.requires.1).0

pub invariant_of-listed-clause-inside : goal.invariant_of-listed-clause-inside
invariant_of-listed-clause-inside c = rw c.entries.ensures (past_small c.args.pasts.now c.loop-i.i _ c.loop-i-test.true c.requires.1).1

pub loop-i-preserved : goal.loop-i-preserved
loop-i-preserved c = (
  length-set c.loop-i.rows c.loop-i.i _ ∙ c.loop-i.invariant.0,
  rows_more c.args.pasts.now c.loop-i.i _ c.loop-i-test.true c.loop-i.rows _ (omega arith) c.loop-i.invariant.1 (rw c.entries.ensures at c.marks.ensures),
)
