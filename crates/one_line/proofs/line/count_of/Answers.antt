-- The ones of the row are its events. Assumes nothing.
use Rattle.std.proofs.Common.{arith}
use Rattle.one_line.proofs.LineLaws.{ones-tally, few-events}
use Rattle.one_line.proofs.line.count_of.Goals as goal

pub returns : goal.returns
returns c =
    let e = ones-tally 64 c.args.row c.ranges.row.fits in
    let f = few-events c.args.row in
    (e, omega arith)
