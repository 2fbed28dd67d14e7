-- `joined` meets its contract. Assumes nothing.
use Rattle.weakened.proofs.CausalLaws.{joined-copied}
use Rattle.weakened.proofs.causal.joined.Goals as goal

pub returns : goal.returns
returns c =
    joined-copied c.args.first.now c.args.second.now c.requires _ _ c.copy_from_slice.ensures.after c.copy_from_slice-2.ensures.after
