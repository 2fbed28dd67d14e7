-- A pop leaves what `popped` does. Assumes nothing.
use Rattle.objects.proofs.StateLaws.{at_op}
use Rattle.objects.proofs.state.State.changed.Goals as goal

pub returns-in-Pop : goal.returns-in-Pop
returns-in-Pop c = at_op c.in-Pop.is (c.popped.ensures _)
