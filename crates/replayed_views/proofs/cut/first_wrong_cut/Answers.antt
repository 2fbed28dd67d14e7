-- The replay of an event's row finds what that of its part of the view finds.
use native.Mathlib.Omega.{arith}
use borrow.Author.Rules.{rules}
use Rattle.replayed_views.proofs.SearchLaws.{none-on}
use Rattle.replayed_views.proofs.CutLaws.{cut-found, found-some, found-none, event-found, event-none}
use Rattle.replayed_views.proofs.cut.first_wrong_cut.Goals as goal

pub returns-in-Some : goal.returns-in-Some
returns-in-Some c =
    event-found _ _ c.loop-e-test.true c.loop-e.invariant
    (found-some c.in-Some.is
    (cut-found c.args.rows.now c.with_event-past.result c.both-kept.result c.object_rows-on.result c.requires c.loop-e-test.true c.from-o.ensures c.with_event-past.ensures c.object_rows-on.ensures c.both-kept.ensures (search rules) _ _ c.replay_row.ensures))

pub loop-e-preserved : goal.loop-e-preserved
loop-e-preserved c =
    none-on c.loop-e.invariant
    (found-none c.in_default.is
    (cut-found c.args.rows.now c.with_event-past.result c.both-kept.result c.object_rows-on.result c.requires c.loop-e-test.true c.from-o.ensures c.with_event-past.ensures c.object_rows-on.ensures c.both-kept.ensures (search rules) _ _ c.replay_row.ensures))

pub returns : goal.returns
returns c = event-none c.args.history.now.size _ (omega arith) c.loop-e.invariant
