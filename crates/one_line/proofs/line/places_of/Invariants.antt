-- `places_of` meets its contract: the places of the events so far. Assumes nothing.
use Rattle.std.proofs.Common.{◌≡◌, ℕ, ◌<◌, get_or, length}
use Rattle.one_line.specs.Steps.{place_in}
use Rattle.one_line.proofs.line.places_of.Given as goal

abbrev pub invariant-loop-e : goal.invariant-loop-e
invariant-loop-e l = (length l.places ≡ 64) × ((k : ℕ) → k < l.e → get_or l.places k 0 ≡ place_in l.order.pasts l.order.updates k)
