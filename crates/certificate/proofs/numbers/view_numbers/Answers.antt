-- `view_numbers` meets its contract: by processes, by events, or the one view. Assumes nothing.
use mathlib.Core.Path.{refl}
use Rattle.certificate.specs.Criteria.{view_numbers}
use Rattle.certificate.proofs.NumberingLaws.{views-are}
use Rattle.certificate.proofs.numbers.view_numbers.Goals as goal

pub returns-in-Pram : goal.returns-in-Pram
unfolding view_numbers
returns-in-Pram c = views-are _ _ _ _ _ _ c.requires c.in-Pram.is refl refl c.process_numbers.ensures

pub returns-in-Weak : goal.returns-in-Weak
unfolding view_numbers
returns-in-Weak c = views-are _ _ _ _ _ _ c.requires c.in-Weak.is refl refl c.event_numbers.ensures

pub returns-in-Converge : goal.returns-in-Converge
unfolding view_numbers
returns-in-Converge c = views-are _ _ _ _ _ _ c.requires c.in-Converge.is refl refl c.one_number.ensures
