-- `part_start` meets its contract: the part with the number k is one of those that are left of the rest. Assumes nothing.
use Rattle.std.proofs.Common.{◌≡◌, ◌<◌, ◌+◌, ◌-◌, arith, sym, ◌∙◌, length, drop, le_refl}
use Rattle.layout.proofs.SplitLaws.{part-told, part-last, part-next, part_none, part_end, start_first, start-next, start_none}
use Rattle.layout.proofs.split.part_start.Goals as goal

pub returns-in_default : goal.returns-in_default
returns-in_default c =
    let none = part-last c.args.b c.args.s.now c.loop.start c.loop.invariant.0 c.in_default.ensures.0 in
    let left : 0 < c.args.k - c.loop.counter = omega arith in
    let all = le_refl (length c.args.s.now) in (
      sym (c.loop.invariant.2 ∙ start_none c.args.b c.args.s.now c.loop.start (length c.args.s.now) none c.loop.invariant.0 (c.args.k - c.loop.counter) left all),
      all,
      c.loop.invariant.1 ∙ part_none c.args.b c.args.s.now c.loop.start (length c.args.s.now) none c.loop.invariant.0 (c.args.k - c.loop.counter) left all
          ∙ sym (part_end c.args.b c.args.s.now (length c.args.s.now) all),
    )

pub loop-preserved : goal.loop-preserved
loop-preserved c =
    let p = part-told c.args.b c.args.s.now c.loop.start c.in-Some.part.now c.loop.invariant.0 c.in-Some.ensures.0 c.in-Some.ensures.1 in
    let left : 0 < c.args.k - c.loop.counter = omega arith in
    let k : c.args.k - (c.loop.counter + 1) ≡ c.args.k - c.loop.counter - 1 = omega arith in
    let n : c.loop.start + (length c.in-Some.part.now + 1) ≡ c.loop.start + length c.in-Some.part.now + 1 = omega arith in
    rw (k, n) (
      omega (arith, p.1),
      c.loop.invariant.1 ∙ part-next c.args.b c.args.s.now c.loop.start _ p.0 c.loop.invariant.0 (c.args.k - c.loop.counter) left p.1,
      c.loop.invariant.2 ∙ start-next c.args.b c.args.s.now c.loop.start _ p.0 c.loop.invariant.0 (c.args.k - c.loop.counter) left p.1,
    )

pub returns : goal.returns
returns c =
    let z : c.args.k - c.loop.counter ≡ 0 = omega arith in
    let i = rw z at c.loop.invariant in
    (sym (i.2 ∙ rw (start_first c.args.b (drop c.loop.start c.args.s.now)) (omega arith)), i.0, i.1)
