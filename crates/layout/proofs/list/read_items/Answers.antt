-- `read_items` meets its contract: the items left, from the answer so far, give the whole answer. Assumes nothing.
use Rattle.std.proofs.Common.{ℕ, ◌≡◌, ◌+◌, rules, refl, sym, ◌∙◌, length, drop, eqb, Err}
use mathlib.Core.Bool.{false≢true}
use Rattle.std.proofs.lemmas.Iterator.Consumers.{YieldsList-turn, YieldsList-end}
use Rattle.std.proofs.lemmas.Iterator.Splits.{YieldsList-from_slice_split}
use Rattle.std.proofs.lemmas.List.{length_push}
use Rattle.layout.specs.declared.list.ListFault.TheVariants.{NotList}
use Rattle.layout.specs.Split.{split}
use Rattle.layout.proofs.SplitLaws.{split_is}
use Rattle.layout.proofs.ListLaws.{turn-more, no-list, nothing-more, turn_end, answer-is, places-are}
use Rattle.layout.proofs.list.read_items.Goals.{in-Err-NotList, in_default, in_default-2}
use Rattle.layout.proofs.list.read_items.Goals as goal

pub loop-item-init : goal.loop-item-init
loop-item-init c = (refl, refl)

pub loop-item-preserved : goal.loop-item-preserved
loop-item-preserved c =
    let y = YieldsList-from_slice_split _ (λ (x : ℕ). eqb x 44) c.args.field.now (cc) (cc) (cc) (λ x b q k. search rules) in
    let t = YieldsList-turn y c.loop-item.yielded _ c.loop-item.yielded_by _ _ c.in-Some.item c.in-Some.is c.next.ensures.steps in
    let u = rw (split_is 44 c.args.field.now) at t in
    let m = turn-more c.args.bound (length c.args.items.now) c.loop-item.so_far c.loop-item.items (split 44 c.args.field.now) (length c.loop-item.yielded)
    c.in-Some.item.now u.0 u.1 c.loop-item.auto.items _ c.push_item-so_far.ensures.0 _ c.push_item-so_far.ensures.1 in
    rw (length_push c.loop-item.yielded c.in-Some.item) (c.loop-item.invariant.0 ∙ m.0, c.loop-item.invariant.1 ∙ m.1)

-- nothing that follows an item that is no number changes the answer
pub returns-then-matches : goal.returns-then-matches
returns-then-matches c =
    let y = YieldsList-from_slice_split _ (λ (x : ℕ). eqb x 44) c.args.field.now (cc) (cc) (cc) (λ x b q k. search rules) in
    let t = YieldsList-turn y c.loop-item.yielded _ c.loop-item.yielded_by _ _ c.in-Some.item c.in-Some.is c.next.ensures.steps in
    let u = rw (split_is 44 c.args.field.now) at t in
    let m = turn-more c.args.bound (length c.args.items.now) c.loop-item.so_far c.loop-item.items (split 44 c.args.field.now) (length c.loop-item.yielded)
    c.in-Some.item.now u.0 u.1 c.loop-item.auto.items _ c.push_item-so_far.ensures.0 _ c.push_item-so_far.ensures.1 in
    let is : c.push_item-so_far.result ≡ Err NotList =
    elim c.match-matches.branch [
      | in-Err-NotList w ↦ no-list _ _ w.in-Err-NotList.is (rw w.in-Err-NotList.is at w.in-Err-NotList.field-0-is)
      | in_default w ↦ absurd (false≢true (sym w.matches-is ∙ c.if-matches.true))
      | in_default-2 w ↦ absurd (false≢true (sym w.matches-is ∙ c.if-matches.true))
    ] in
    let left = nothing-more c.args.bound (length c.args.items.now) c.push_item-so_far.result is (drop (length c.loop-item.yielded + 1) (split 44 c.args.field.now)) c.push_item-so_far.new.items in (
      sym (c.loop-item.invariant.0 ∙ m.0 ∙ left.0) ∙ answer-is c.args.bound (length c.args.items.now) (split 44 c.args.field.now),
      sym (c.loop-item.invariant.1 ∙ m.1 ∙ left.1) ∙ places-are c.args.bound (length c.args.items.now) (split 44 c.args.field.now) c.args.items.now refl,
    )

pub returns : goal.returns
returns c =
    let y = YieldsList-from_slice_split _ (λ (x : ℕ). eqb x 44) c.args.field.now (cc) (cc) (cc) (λ x b q k. search rules) in
    let t = YieldsList-end y c.loop-item.yielded _ c.loop-item.yielded_by _ _ c.in-None.is c.next.ensures.steps in
    let u = rw (split_is 44 c.args.field.now) at t.1 in
    let m = turn_end c.args.bound (length c.args.items.now) c.loop-item.so_far c.loop-item.items (split 44 c.args.field.now) (length c.loop-item.yielded) u in (
      sym (c.loop-item.invariant.0 ∙ m.0) ∙ answer-is c.args.bound (length c.args.items.now) (split 44 c.args.field.now),
      sym (c.loop-item.invariant.1 ∙ m.1) ∙ places-are c.args.bound (length c.args.items.now) (split 44 c.args.field.now) c.args.items.now refl,
    )
