-- `leading_values` meets its contract: the values so far are what the text spells up to the rest. Assumes nothing.
use mathlib.Core.Path.{refl}
use borrow.Author.Rules.{rules}
use Rattle.layout.proofs.LeadingLaws.{byte-leads, number-leads}
use Rattle.history.specs.Record.{value_bound}
use Rattle.history.proofs.ListedLaws.{listed_begins, listed-more}
use Rattle.event_reader.proofs.QuickLaws.{values-end}
use Rattle.event_reader.proofs.next.leading_values.Goals as goal

pub loop-k-init : goal.loop-k-init
loop-k-init c = listed_begins 8 value_bound c.args.text.now _ refl

pub returns-in-10 : goal.returns-in-10
returns-in-10 c =
    let n = number-leads _ _ _ _ c.in-Some.ensures.0 in
    values-end c.loop-k.invariant (search rules) _ _ _ n.0 n.1 (byte-leads _ _ c.in-10.len_at_least (search rules))

pub loop-k-preserved : goal.loop-k-preserved
loop-k-preserved c =
    let n = number-leads _ _ _ _ c.in-Some.ensures.0 in
    listed-more c.loop-k.invariant (search rules) _ _ n.0 n.1 _ (byte-leads _ _ c.in-44.len_at_least (search rules))
