-- `walnutgleam_verdict` meets its contract: the place that an answer has is within its text, and small. Assumes nothing.
use Rattle.std.proofs.Common.{arith, ap}
use Rattle.checker.specs.CheckText.{Verdict}
use Rattle.checker.proofs.VerdictLaws.{answer-placed, answer-small}
use Rattle.interface.proofs.check.walnutgleam_verdict.Goals as goal

pub places_of-requires : goal.places_of-requires
places_of-requires c =
    let s = answer-small c.args.history.now c.args.certificate.now _ (ap (λ (v : Verdict). v.place) c.check-answer.ensures) in
    let p = answer-placed c.args.history.now c.args.certificate.now _ (ap (λ (v : Verdict). v.place) c.check-answer.ensures) in
    record { line = omega (arith, s.line); from = p.from; end = s.end }
