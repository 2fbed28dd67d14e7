-- Nothing is wrong in the views before view k, so the one before it is right.
use native.Mathlib.Omega.{arith}
use mathlib.Core.Path.{ap}
use lib.ListN.{length}
use Rattle.replayed_views.specs.Search.{at_view}
use Rattle.replayed_views.proofs.CutLaws.{found-some, found-none}
use Rattle.replayed_views.proofs.SearchLaws.{wrong-here, none-on, place_found, place_none}
use Rattle.replayed_views.proofs.search.first_wrong.Goals as goal

pub returns-in-Some : goal.returns-in-Some
returns-in-Some c =
    let found = rw c.get.ensures at (c.wrong_answer.ensures (c.before-known.ensures _ _ c.loop-k.invariant)) in
    place_found (length c.args.views.now.numbers.now) _ (omega arith) c.loop-k.invariant (wrong-here c.loop-k.k _ _ (found-some c.in-Some.is found))

pub loop-k-preserved : goal.loop-k-preserved
loop-k-preserved c =
    let found = rw c.get.ensures at (c.wrong_answer.ensures (c.before-known.ensures _ _ c.loop-k.invariant)) in
    none-on c.loop-k.invariant (ap (at_view c.loop-k.k) (found-none c.in_default.is found))

pub returns : goal.returns
returns c = place_none (length c.args.views.now.numbers.now) _ (omega arith) c.loop-k.invariant
