-- `event_numbers` meets its contract: the numbers so far are the first events. Assumes nothing.
use mathlib.Core.Path.{refl}
use borrow.Author.Rules.{rules}
use Rattle.certificate.specs.Criteria.{count_from}
use Rattle.certificate.proofs.NumberingLaws.{event-room, event-more}
use Rattle.certificate.proofs.numbers.event_numbers.Goals as goal

pub loop-i-init : goal.loop-i-init
unfolding count_from
loop-i-init c = c.no_numbers-numbers.ensures

pub push-requires : goal.push-requires
push-requires c = event-room _ _ c.loop-i.invariant (search rules)

pub loop-i-preserved : goal.loop-i-preserved
loop-i-preserved c = event-more _ _ _ refl (c.push.ensures _ c.loop-i.invariant)

pub returns : goal.returns
returns c = search rules
