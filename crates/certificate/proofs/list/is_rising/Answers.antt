-- `is_rising` meets its contract: each two neighbours are in order, or some two are not. Assumes nothing.
use lib.Dec.{ltb}
use Rattle.std.proofs.Common.{rules, tests}
use Rattle.std.proofs.lemmas.List.Sorted.{answers_always}
use Rattle.certificate.proofs.RisingLaws.{rising_is}
use Rattle.certificate.proofs.list.is_rising.Goals as goal

pub returns : goal.returns
returns c =
    rising_is c.args.items.now c.is_sorted_by.result
    (c.is_sorted_by.ensures.cases ltb (answers_always _ _ _ (λ f a r g h. search (rules, tests))))
