-- `put_number` meets its contract: it writes the digits from the last one on. Assumes nothing.
use Rattle.std.proofs.Common.{◌≡◌, ◌∙◌, sym, arith, length-set}
use Rattle.layout.specs.Fill.{fill}
use Rattle.layout.proofs.SpellLaws.{last-spell, last_turn, last_none, spell-rest}
use Rattle.layout.proofs.number.put_number.Goals as goal

pub loop-i-preserved : goal.loop-i-preserved
loop-i-preserved c =
    (simp length-set (omega arith), c.loop-i.invariant.1 ∙ last_turn c.loop-i.part c.loop-i.i c.loop-i.rest (omega arith) (omega arith))

pub returns : goal.returns
unfolding fill
returns c =
    let z : c.loop-i.i ≡ 0 = omega arith in
    (c.number_len-k.ensures.0, sym (last_none c.loop-i.rest c.loop-i.part) ∙ sym (rw z at c.loop-i.invariant.1) ∙ rw c.number_len-k.ensures.0 (last-spell _ _ ∙ spell-rest _ _))
