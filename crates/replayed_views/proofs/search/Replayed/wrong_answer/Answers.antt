-- The event that decides the view is wrong in its object's row where it is wrong in the view.
use native.Mathlib.Omega.{arith}
use Prim.Native.Nat.{ℕ, ◌<◌}
use mathlib.Core.Path.{◌≡◌, ap, sym, ◌∙◌}
use mathlib.Core.Bool.{true}
use lib.ListN.{get_or}
use borrow.Author.Rules.{rules}
use Rattle.criteria.specs.History.{only}
use Rattle.criteria.specs.Check.{first_wrong}
use Rattle.replays.specs.Replay.{no_light, history_in, contents_in}
use Rattle.replays.proofs.ReplayLaws.{object-of}
use Rattle.replayed_views.proofs.CutLaws.{row-found, keep_all}
use Rattle.replayed_views.proofs.DecidingLaws.{decided}
use Rattle.replayed_views.proofs.search.Replayed.wrong_answer.Goals as goal

pub returns : goal.returns
returns c right =
    let its : c.from-o.result ≡ (get_or c.args.self.now.history.now.events c.in-Some.e.0 no_light).object =
    c.from-o.ensures ∙ ap (λ (k : ℕ). (get_or c.args.self.now.history.now.events k no_light).object) c.from.ensures in
    let small : c.from-o.result < 16 = object-of c.args.self.now.history.now c.requires.1.parts c.in-Some.ensures.0 its in
    row-found (get_or c.args.self.now.rows c.from-o.result 0) c.requires.1 c.in-Some.ensures.0 its (λ _. true)
    (λ f l. c.args.self.now.each c.from-o.result small f (omega (arith, l, c.requires.1.parts.small))) (search rules) _ _ c.replay_row.ensures
    ∙ ap (first_wrong (history_in c.args.self.now.history.now) (only c.in-Some.e.0) (contents_in c.args.self.now.history.now.values c.args.self.now.starts)) (keep_all c.args.this.view.events.now)
    ∙ sym (decided c.args.self.now.history.now c.args.known.seen c.args.known.view.events.now c.args.this.seen c.args.this.view.events.now c.in-Some.e.0 c.in-Some.ensures.1 (contents_in c.args.self.now.history.now.values c.args.self.now.starts) right)
