-- `list_of` meets its contract. Assumes nothing.
use Rattle.weakened.proofs.ListLaws.{list-copied}
use Rattle.weakened.proofs.list.list_of.Goals as goal

pub returns : goal.returns
returns c =
    (list-copied c.args.view.now _ c.copy_from_slice.ensures.after, c.requires)
