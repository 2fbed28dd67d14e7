-- None of the events is another of the process, where each passes the test.
use Rattle.std.proofs.Common.{rules, arith, ◌≡◌, ◌<◌, get_or}
use Rattle.std.proofs.lemmas.Iterator.{YieldsList-from_slice, cases_from_all}
use Rattle.std.proofs.lemmas.Iterator.Adapters.{serves_from_places}
use Rattle.criteria.specs.Tests.{place}
use Rattle.criteria.proofs.Lists.{place_in}
use Rattle.criteria.proofs.Loops.{any-default}
use Rattle.replays.specs.Replay.{no_light}
use Rattle.replayed_views.proofs.deciding.alone.Goals as goal

pub all-requires-clause-callable : goal.all-requires-clause-callable
all-requires-clause-callable c =
    serves_from_places (YieldsList-from_slice c.args.rest.now c.iter.ensures.rest) (λ x q k. search rules)
    (λ x k l e. let below : x.now < 64 = omega (arith, e, any-default c.args.rest.now k x.now 0 l, c.requires k l) in search (rules, below))

pub returns : goal.returns
returns c all f t on =
    let p = place_in f c.args.rest.now t in
    let w =
    cases_from_all _ _ c.all.result (λ y. (get_or c.args.events.now y no_light).process.0 ≡ c.args.p.0 → y ≡ c.args.e.0) (λ y. Unit {0}) c.all.ensures.ran
    (YieldsList-from_slice c.args.rest.now c.iter.ensures.rest) (λ x q k. (search rules, λ m. search rules)) (λ x q k. tt) in
    let held = rw all at w in
    (rw p.1 at (held (place f c.args.rest.now) 0 (omega arith) p.0)) on
