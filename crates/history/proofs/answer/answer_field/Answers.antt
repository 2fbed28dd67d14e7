-- `answer_field` meets its contract: a list of at most eight values is kept whole. Assumes nothing.
use Rattle.std.proofs.Common.{◌<◌, refl, sym, ◌∙◌, arith, rules}
use Rattle.std.proofs.lemmas.Grind.{common_steps, same_number_lists}
use Rattle.std.proofs.lemmas.Iterator.Adapters.{serves_from_places}
use Rattle.layout.proofs.ListLaws.{yields_items}
use Rattle.history.specs.Faults.{is_lost}
use Rattle.history.proofs.AnswerLaws.{answer-below, answer-listed}
use Rattle.history.proofs.answer.answer_field.Goals as goal

pub map-requires : goal.map-requires
map-requires c =
    let below = answer-below c.args.field.now _ (sym c.in-Ok.ensures.0) _ c.read_list.ensures.1 in (
      omega arith,
      (omega arith, (omega arith, serves_from_places (yields_items c.read_list.new.items) (λ x q k. refl) (λ x k l e κs p n a r. grind (arith, common_steps, below k)))),
    )

pub returns-in-Ok : goal.returns-in-Ok
unfolding is_lost
returns-in-Ok c =
    let m = c.map.ensures.items in
    let same = same_number_lists c.map.result c.read_list.new.items (search rules) (λ k l. let n : k < 8 = omega (arith, m.long) in let at = m.at k 0 0 n in search rules) in
    sym (answer-listed c.args.field.now _ (sym c.in-Ok.ensures.0) _ c.read_list.ensures.1 c.map.result same (sym c.is_word.ensures ∙ c.if-is_word.false))
