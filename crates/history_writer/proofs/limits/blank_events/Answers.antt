-- `blank_events` meets its contract. Assumes nothing.
use Rattle.std.proofs.Common.{rules, tests, refl}
use Rattle.std.proofs.lemmas.Iterator.{YieldsList-from_slice}
use Rattle.history.specs.Readable.{blank_event, blank_events}
use Rattle.history.proofs.AllLaws.{all-from_all}
use Rattle.history_writer.proofs.limits.blank_events.Goals as goal

pub returns : goal.returns
unfolding blank_events
returns c =
    all-from_all blank_event blank_events _ _ _ refl (λ e more. refl) c.all.ensures.ran (YieldsList-from_slice c.args.events.now cc)
    (λ x b q k. search (rules, tests))
