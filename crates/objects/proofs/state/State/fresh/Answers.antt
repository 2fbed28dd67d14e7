-- The state at the start. Assumes nothing.
use Rattle.std.proofs.Common.{rules, refl}
use Rattle.objects.proofs.StateLaws.{fresh-law}
use Rattle.objects.proofs.state.State.fresh.Goals as goal

pub returns : goal.returns
returns c = fresh-law c.args.o _ (search rules) c.limit_of.ensures refl (search rules) (search rules) refl
