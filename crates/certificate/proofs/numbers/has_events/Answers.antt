-- `has_events` meets its contract: `any` tests each event in turn. Assumes nothing.
use mathlib.Core.Path.{◌∙◌}
use lib.Dec.{eqb}
use Rattle.std.proofs.Common.{rules, tests}
use Rattle.std.proofs.lemmas.Iterator.{YieldsList-from_slice}
use Rattle.std.proofs.lemmas.Iterator.Search.{any_from_yields_List}
use Rattle.history.specs.declared.record.Event.{Event}
use Rattle.certificate.proofs.NumberingLaws.{any-has}
use Rattle.certificate.proofs.numbers.has_events.Goals as goal

pub returns : goal.returns
returns c =
    any_from_yields_List (λ (e : Event). eqb e.process.0 c.args.p.0) _ _ _ c.any.ensures.ran
    (YieldsList-from_slice c.args.events.now cc) (λ x b q k. search (rules, tests))
    ∙ any-has c.args.p.0 c.args.events.now
