-- `read_pair` meets its contract, by what the second field is as a list. Assumes nothing.
use mathlib.Core.Path.{refl, sym, ◌∙◌}
use borrow.Author.Rules.{rules}
use Rattle.std.proofs.Common.{ℕ, ◌<◌, arith, List, ◌++◌, drop, replicate}
use Rattle.std.proofs.lemmas.Grind.{common_steps, same_number_lists}
use Rattle.std.proofs.lemmas.Iterator.Adapters.{serves_from_places}
use Rattle.layout.proofs.ListLaws.{yields_items}
use Rattle.certificate.proofs.ListLineLaws.{pair-number, pair-refused, pair-good, pair-falls, kept}
use Rattle.certificate.proofs.list.read_pair.Goals as goal

pub returns-then-not-is_spelling : goal.returns-then-not-is_spelling
returns-then-not-is_spelling c = pair-number _ _ _ _ _ (sym c.if-not-is_spelling.ensures)

pub returns-in_err-n : goal.returns-in_err-n
returns-in_err-n c =
    pair-refused _ _ _ _ _ (sym c.if-not-is_spelling.ensures) _ (search rules) _ (sym c.read_list.ensures.0 ∙ c.in_err-n.was) _ c.from_residual.ensures.1

pub slice_bounds-items-end-2 : goal.slice_bounds-items-end-2
slice_bounds-items-end-2 c =
    (kept _ _ _ _ c.args.part.few _ refl (sym c.read_list.ensures.0 ∙ c.in_ok-n.was) c.read_list.ensures.1 _ refl).few

pub slice_bounds-in_order-end : goal.slice_bounds-in_order-end
slice_bounds-in_order-end c =
    sym (kept _ _ _ _ c.args.part.few _ refl (sym c.read_list.ensures.0 ∙ c.in_ok-n.was) c.read_list.ensures.1 _ refl).count

pub returns-then-not-in_order : goal.returns-then-not-in_order
returns-then-not-in_order c =
    let k = kept _ _ _ _ c.args.part.few _ refl (sym c.read_list.ensures.0 ∙ c.in_ok-n.was) c.read_list.ensures.1 _ refl in
    pair-falls _ _ _ _ _ (sym c.if-not-is_spelling.ensures) _ (search rules) _ (sym c.read_list.ensures.0 ∙ c.in_ok-n.was) _ k.numbers (sym c.if-not-in_order.ensures)

pub map-requires : goal.map-requires
map-requires c =
    let ys : List ℕ = c.read_list.new.items ++ drop c.args.part.count (replicate 64 0) in
    let k = kept _ _ _ _ c.args.part.few _ refl (sym c.read_list.ensures.0 ∙ c.in_ok-n.was) c.read_list.ensures.1 ys refl in (
      omega arith,
      (omega arith, (omega arith, serves_from_places (yields_items ys) (λ x q k. refl) (λ x i l e κs p n a r. grind (arith, common_steps, k.below i)))),
    )

pub returns : goal.returns
returns c =
    let ys : List ℕ = c.read_list.new.items ++ drop c.args.part.count (replicate 64 0) in
    let q = sym c.read_list.ensures.0 ∙ c.in_ok-n.was in
    let m = c.map.ensures.items in
    let k = kept _ _ _ _ c.args.part.few _ refl q c.read_list.ensures.1 ys refl in
    let same = same_number_lists c.map.result ys (m.long ∙ sym k.long) (λ i l. let n : i < 64 = omega (arith, m.long) in let at = m.at i 0 0 n in search rules) in
    rw (← k.list c.map.result same)
    (pair-good _ _ _ _ _ (sym c.if-not-is_spelling.ensures) _ (search rules) _ q _ k.numbers (sym c.if-not-in_order.ensures))
