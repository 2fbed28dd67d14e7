-- `first_part` meets its contract. Assumes nothing.
use mathlib.Core.Path.{refl}
use Rattle.layout.proofs.SplitLaws.{place-found, place_or-length}
use Rattle.layout.proofs.split.first_part.Goals as goal

pub returns : goal.returns
returns c = rw c.unwrap_or.ensures (rw (place_or-length _ _ _ (place-found c.args.b c.args.s.now _ c.first_place.ensures)) refl)
