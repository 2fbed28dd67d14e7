-- `blank_objects` meets its contract. Assumes nothing.
use Rattle.std.proofs.Common.{rules, tests, refl}
use Rattle.std.proofs.lemmas.Iterator.{YieldsList-from_slice}
use Rattle.history.specs.Readable.{blank_object, blank_objects}
use Rattle.history.proofs.AllLaws.{all-from_all}
use Rattle.history_writer.proofs.limits.blank_objects.Goals as goal

pub returns : goal.returns
unfolding blank_objects
returns c =
    all-from_all blank_object blank_objects _ _ _ refl (λ o more. refl) c.all.ensures.ran (YieldsList-from_slice c.args.objects.now cc)
    (λ x b q k. search (rules, tests))
