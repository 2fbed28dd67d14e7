-- `rising` meets its contract. Assumes nothing.
-- Kept: shaped as that of `cut_to`, but this loop walks the numbers below n and that one the entries of a slice: a law of both would take
-- the two lists, the entry and what `push` promises as premises, and be as long.
use Rattle.std.proofs.Common.{arith, sym, ap, ◌∙◌}
use Rattle.certificate.specs.Record.{event_list_of}
use Rattle.orders.specs.Rows.{in_row}
use Rattle.orders.proofs.CutLaws.{nothing-listed}
use Rattle.weakened.proofs.ListLaws.{rising-kept, rising-left}
use Rattle.weakened.proofs.list.rising.Goals as goal
use Rattle.weakened.proofs.list.rising.Goals.{then-in_row, else-in_row}

pub loop-e-init : goal.loop-e-init
loop-e-init c = (omega (arith, ap (λ l. l.count) c.no_list-list.ensures), c.no_list-list.ensures ∙ nothing-listed)

pub loop-e-preserved : goal.loop-e-preserved
loop-e-preserved c =
    let f = in_row c.args.row in
    elim c.if-in_row.branch [
      | then-in_row w ↦
          rw w.list-is (
            omega (arith, w.push.ensures.count),
            w.push.ensures.list _ c.loop-e.invariant.1 ∙ ap event_list_of (rising-kept f c.loop-e.e (sym c.in_row.ensures ∙ w.if-in_row.true)),
          )
      | else-in_row w ↦
          rw w.list-is (
            omega arith,
            c.loop-e.invariant.1 ∙ ap event_list_of (rising-left f c.loop-e.e (sym c.in_row.ensures ∙ w.if-in_row.false)),
          )
    ]
