-- What an op answers. Assumes nothing.
use mathlib.Core.Path.{refl}
use mathlib.Core.Logic.{inl, inr}
use Rattle.history.specs.declared.record.Op.TheVariants.{Write, Pop, Peek}
use Rattle.objects.proofs.StateLaws.{asked, none_answers, end-answers}
use Rattle.objects.proofs.state.State.answer.Goals as goal

pub returns-in-Write : goal.returns-in-Write
returns-in-Write c =
    asked c.in-Write.is (none_answers c.args.self.now c.none.result Write _ (λ o v l. refl) c.none.ensures)

pub returns-in-Read : goal.returns-in-Read
returns-in-Read c = asked c.in-Read.is (c.read.ensures _)

pub returns-in-Pop : goal.returns-in-Pop
returns-in-Pop c =
    elim c.in-Pop.is [
      | inl e ↦ asked e (end-answers c.args.self.now c.ended.result Pop _ (λ o v l. refl) c.ended.ensures)
      | inr e ↦ asked e (end-answers c.args.self.now c.ended.result Peek _ (λ o v l. refl) c.ended.ensures)
    ]
