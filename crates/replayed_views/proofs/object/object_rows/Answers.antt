-- At first the rows are empty.
use native.Mathlib.Omega.{arith}
use Prim.Native.Nat.{ℕ}
use mathlib.Core.Path.{refl, sym, ap, ◌∙◌}
use mathlib.Core.Bool.{Bool, ◌&&◌}
use lib.ListN.{get_or, get_or-replicate}
use lib.Dec.{eqb}
use borrow.Author.Tests.{le-ltb}
use Rattle.orders.specs.Rows.{in_row}
use Rattle.orders.proofs.BitLaws.{none_in}
use Rattle.replays.specs.Replay.{no_light}
use Rattle.replayed_views.proofs.object.object_rows.Goals as goal

pub loop-e-init : goal.loop-e-init
loop-e-init c = (
  refl,
  λ o l f. ap (λ (x : ℕ). in_row x f) (get_or-replicate 16 o 0 0 l) ∙ none_in f ∙ sym (ap (λ (b : Bool). b && eqb (get_or c.args.events.now f no_light).object o) (le-ltb f 0 (omega arith))),
)
