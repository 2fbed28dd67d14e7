-- `quick_entries` meets its contract: the entries so far are what the text spells up to the rest. Assumes nothing.
use mathlib.Core.Path.{refl, sym}
use borrow.Author.Rules.{rules}
use Rattle.layout.proofs.LeadingLaws.{byte-leads}
use Rattle.certificate.specs.Steps.Lists.{is_past}
use Rattle.certificate.proofs.NextLaws.{reading_begins, reading-more, reading-ends}
use Rattle.certificate.proofs.next.quick_entries.Goals as goal

pub loop-k-init : goal.loop-k-init
loop-k-init c = reading_begins (is_past c.args.part.sort) c.args.part.count c.args.text.now _ refl

pub returns-in-10 : goal.returns-in-10
returns-in-10 c =
    reading-ends c.loop-k.invariant c.args.part.few (search rules) _ _ c.in_ok-entry.ensures.1 (sym c.if-not-may_follow.ensures) _
    (byte-leads _ _ c.in-10.len_at_least (search rules))

pub loop-k-preserved : goal.loop-k-preserved
loop-k-preserved c =
    reading-more c.loop-k.invariant c.args.part.few (search rules) _ _ c.in_ok-entry.ensures.1 (sym c.if-not-may_follow.ensures) _
    (byte-leads _ _ c.in-44.len_at_least (search rules))
