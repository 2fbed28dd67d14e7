-- Each state is that of its object.
use Rattle.std.proofs.Common.{rules}
use Rattle.history.specs.Record.{no_object}
use Rattle.objects.specs.State.{no_state}
use Rattle.objects.proofs.starts.starts.Goals as goal

pub returns : goal.returns
returns c o l =
    let call = c.map.ensures.items.at o no_object no_state l in
    search (rules, call)
