-- `replay_fault` meets its contract: the history is taken apart once, and a search over its parts finds what the check finds. Assumes
-- nothing.
use Rattle.std.proofs.Common.{rules, refl, ◌≡◌, true}
use Rattle.std.proofs.Math.Option.{some, none}
use Rattle.history.proofs.Guarantees.{within-sound}
use Rattle.orders.specs.Rows.{in_rows}
use Rattle.faults.specs.Steps.{is_converge}
use Rattle.faults.proofs.RecordFacts.{objects-small}
use Rattle.faults.proofs.ReplayedLaws.{taken, view-ready, view-there, place_is, place-below, event-is}
use Rattle.faults.proofs.replayed.replay_fault.Goals as goal

pub light_history-history-requires : goal.light_history-history-requires
light_history-history-requires c =
    ((within-sound c.args.h.now c.requires.0).count, objects-small c.args.h.now c.requires.0)

pub get-requires : goal.get-requires
get-requires c = view-there (taken _ c.args.views.now c.light_history-history.ensures c.starts-begin.ensures (search rules) c.requires) (search rules)

pub bounds-views-0 : goal.bounds-views-0
bounds-views-0 c = view-there (taken _ c.args.views.now c.light_history-history.ensures c.starts-begin.ensures (search rules) c.requires) (search rules)

pub first_wrong_cut-requires : goal.first_wrong_cut-requires
first_wrong_cut-requires c =
    let one : is_converge c.args.criterion ≡ true = search rules in
    let t = taken c.args.criterion c.args.views.now c.light_history-history.ensures c.starts-begin.ensures (search rules) c.requires in
    rw c.get.ensures (view-ready t 0 (view-there t one))

pub returns-in-Some : goal.returns-in-Some
returns-in-Some c =
    let t = taken c.args.criterion c.args.views.now c.light_history-history.ensures c.starts-begin.ensures (search rules) c.requires in
    event-is t c.args.rows.now (search rules) (some c.in-Some.e.0) (rw c.get.ensures at c.in-Some.ensures)

pub returns-in-None : goal.returns-in-None
returns-in-None c =
    let t = taken c.args.criterion c.args.views.now c.light_history-history.ensures c.starts-begin.ensures (search rules) c.requires in
    event-is t c.args.rows.now (search rules) none (rw c.get.ensures at c.in-None.ensures)

pub first_wrong-requires : goal.first_wrong-requires
first_wrong-requires c = view-ready (taken c.args.criterion c.args.views.now c.light_history-history.ensures c.starts-begin.ensures (search rules) c.requires)

pub bounds-views-place : goal.bounds-views-place
bounds-views-place c =
    let t = taken c.args.criterion c.args.views.now c.light_history-history.ensures c.starts-begin.ensures (search rules) c.requires in
    let p = c.in-Some-first_wrong.place in
    place-below t (in_rows c.args.rows.now) c.visible_views-who.result (search rules) c.visible_views-who.ensures (some p) c.in-Some-first_wrong.ensures p refl

pub returns-in-Some-first_wrong : goal.returns-in-Some-first_wrong
returns-in-Some-first_wrong c =
    let t = taken c.args.criterion c.args.views.now c.light_history-history.ensures c.starts-begin.ensures (search rules) c.requires in
    place_is t (in_rows c.args.rows.now) c.visible_views-who.result (search rules) c.visible_views-who.ensures (some c.in-Some-first_wrong.place) c.in-Some-first_wrong.ensures

pub returns-in-None-first_wrong : goal.returns-in-None-first_wrong
returns-in-None-first_wrong c =
    let t = taken c.args.criterion c.args.views.now c.light_history-history.ensures c.starts-begin.ensures (search rules) c.requires in
    place_is t (in_rows c.args.rows.now) c.visible_views-who.result (search rules) c.visible_views-who.ensures none c.in-None-first_wrong.ensures
