-- `cut_to` meets its contract: the list so far has those of the first entries that are kept. Assumes nothing.
use Rattle.std.proofs.Common.{sym, ap, ◌∙◌, arith}
use Rattle.certificate.specs.Record.{event_list_of}
use Rattle.orders.specs.Rows.{in_row}
use Rattle.orders.proofs.CutLaws.{cut-kept, cut-left, nothing-listed}
use Rattle.orders.proofs.views.View.cut_to.Goals as goal
use Rattle.orders.proofs.views.View.cut_to.Goals.{then-in_row, else-in_row}

pub loop-x-init : goal.loop-x-init
loop-x-init c = (omega (arith, ap (λ l. l.count) c.no_list-cut.ensures), c.no_list-cut.ensures ∙ nothing-listed)

pub loop-x-preserved : goal.loop-x-preserved
loop-x-preserved c =
    let v = c.args.self.now.events.now in
    let i = c.loop-x.x-index in
    let f = in_row c.args.kept in
    elim c.if-in_row.branch [
      | then-in_row w ↦
          rw w.cut-is (
            omega (arith, w.push.ensures.count),
            w.push.ensures.list _ c.loop-x.invariant.1 ∙ ap event_list_of (rw c.from.ensures at (cut-kept f v i c.from.result c.loop-x-test.true c.from.ensures (sym c.in_row.ensures ∙ w.if-in_row.true))),
          )
      | else-in_row w ↦
          rw w.cut-is (
            omega arith,
            c.loop-x.invariant.1 ∙ ap event_list_of (cut-left f v i _ c.loop-x-test.true c.from.ensures (sym c.in_row.ensures ∙ w.if-in_row.false)),
          )
    ]
