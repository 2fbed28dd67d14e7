-- `split_once` meets its contract. Assumes nothing.
use Rattle.std.proofs.Common.{None, Some, arith}
use Rattle.layout.proofs.SplitLaws.{place-found, split-last, cut_once}
use Rattle.layout.proofs.split.split_once.Goals as goal

pub returns-in_err-e : goal.returns-in_err-e
returns-in_err-e c =
    let e = place-found c.args.b c.args.s.now None c.in_err-e.ensures in
    rw c.from_residual.ensures (e, split-last c.args.b c.args.s.now (omega (arith, e)))

pub returns : goal.returns
returns c =
    let e = place-found c.args.b c.args.s.now (Some c.in_ok-e.e) c.in_ok-e.ensures in
    cut_once c.args.b c.args.s.now c.in_ok-e.e e.0 e.1
