-- `program_rows` meets its contract: the rows so far are those of the first i events, and each process has the row of its events so far.
-- Assumes nothing.
use Rattle.std.proofs.Common.{◌≡◌, ◌<◌, sym, refl, arith, length-set, ◌∙◌, get_or}
use Rattle.orders.proofs.ProgramLaws.{earlier-begins, earlier_more, program-begins, program-more}
use Rattle.orders.proofs.listed.program_rows.Goals as goal

pub loop-i-init : goal.loop-i-init
loop-i-init c = (refl, refl, program-begins c.args.processes.now, earlier-begins c.args.processes.now)

pub loop-i-preserved : goal.loop-i-preserved
loop-i-preserved c =
    let ps = c.args.processes.now in
    let i = c.loop-i.i in
    let p = c.from-p.result in
    let its : get_or ps i 0 ≡ p = sym c.from-p.ensures in
    let number = c.requires.1 i c.loop-i-test.true in
    let few : p < 8 = omega (arith, number, its) in (
      length-set c.loop-i.rows i _ ∙ c.loop-i.invariant.0,
      length-set c.loop-i.earlier p _ ∙ c.loop-i.invariant.1,
      program-more ps i c.loop-i.rows (get_or c.loop-i.earlier p 0) (omega arith) c.loop-i.invariant.2 (rw its (c.loop-i.invariant.3 p few)),
      earlier_more ps i c.loop-i.earlier c.with_event.result c.loop-i.invariant.1 p its few c.with_event.ensures c.loop-i.invariant.3,
    )
