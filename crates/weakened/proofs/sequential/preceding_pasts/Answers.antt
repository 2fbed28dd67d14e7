-- `preceding_pasts` meets its contract. Assumes nothing.
use Rattle.std.proofs.Common.{rules, arith, ◌≡◌, ◌<◌, length}
use Rattle.weakened.proofs.SequentialLaws.{pasts-none, pasts-more, pasts-done}
use Rattle.weakened.proofs.sequential.preceding_pasts.Goals as goal

pub loop-e-init : goal.loop-e-init
loop-e-init c = pasts-none c.args.view.now.events.now c.no_list-pasts.result c.no_list-pasts.ensures

pub loop-e-preserved : goal.loop-e-preserved
loop-e-preserved c =
    let next : c.loop-e.e < length c.args.view.now.events.now = search rules in
    pasts-more c.args.view.now.events.now c.loop-e.e c.loop-e.pasts c.preceding.result (omega (arith, next, c.args.view.now.few)) c.loop-e.invariant c.preceding.ensures

pub returns : goal.returns
returns c =
    let done : c.loop-e.e ≡ length c.args.view.now.events.now = search rules in
    pasts-done c.args.view.now.events.now c.loop-e.e c.loop-e.pasts done c.loop-e.invariant
