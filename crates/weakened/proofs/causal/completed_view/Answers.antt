-- `completed_view` meets its contract. Assumes nothing.
use Rattle.std.proofs.Common.{arith, ap, length}
use Rattle.weakened.proofs.CausalLaws.{behind-few, completed-is}
use Rattle.weakened.proofs.causal.completed_view.Goals as goal

pub joined-requires : goal.joined-requires
joined-requires c =
    let few = behind-few c.args.n c.args.view.now.events.now c.requires.1 c.requires.2 c.marks.result c.others.result c.requires.0 c.marks.ensures c.others.ensures
    c.rising-behind.result c.rising-behind.ensures.0 in
    omega (arith, few, ap length c.entries.ensures)

pub returns : goal.returns
returns c =
    completed-is c.args.n c.args.view.now.events.now c.requires.1 c.requires.2 c.marks.result c.others.result c.requires.0 c.marks.ensures c.others.ensures
    c.rising-behind.result c.rising-behind.ensures.0 c.joined.result (rw c.entries.ensures at c.joined.ensures)
