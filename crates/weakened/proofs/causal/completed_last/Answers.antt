-- `completed_last` meets its contract. Assumes nothing.
use Rattle.std.proofs.Common.{arith, length, ◌<◌, ◌∙◌, ap}
use Rattle.certificate.specs.Record.{event_list_of}
use Rattle.criteria.specs.Weaken.{completed}
use Rattle.orders.specs.Rows.{view_at}
use Rattle.orders.proofs.ViewLaws.{view-inside}
use Rattle.weakened.proofs.CausalLaws.{last-or_first}
use Rattle.weakened.proofs.causal.completed_last.Goals as goal

pub get-requires : goal.get-requires
get-requires c =
    let last = last-or_first c.args.processes.now c.args.p c.last_of.result c.last_of.ensures in
    omega (arith, last.1 c.requires.1, c.unwrap_or-last.ensures, c.requires.0)

pub completed_view-requires : goal.completed_view-requires
completed_view-requires c =
    let last = last-or_first c.args.processes.now c.args.p c.last_of.result c.last_of.ensures in
    let n = length c.args.processes.now in
    let below : c.unwrap_or-last.result < n = omega (arith, last.1 c.requires.1, c.unwrap_or-last.ensures) in (
      omega (arith, c.requires.0, c.args.views.now.few),
      rw c.get.ensures (view-inside c.args.views.now.rows.now c.args.views.now.lengths.now n n c.requires.2 c.unwrap_or-last.result below),
      rw c.get.ensures (c.requires.3 c.unwrap_or-last.result below),
    )

pub returns : goal.returns
returns c =
    let last = last-or_first c.args.processes.now c.args.p c.last_of.result c.last_of.ensures in
    let n = length c.args.processes.now in (
      c.completed_view.ensures.0 ∙ ap (λ v. event_list_of (completed n v)) (c.get.ensures ∙ ap (view_at c.args.views.now.rows.now c.args.views.now.lengths.now) (c.unwrap_or-last.ensures ∙ last.0)),
      c.completed_view.ensures.1,
    )
