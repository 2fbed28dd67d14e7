-- The row of those of the first events that pass a test. Assumes nothing.
use mathlib.Core.Path.{◌≡◌, sym, ap, ◌∙◌}
use mathlib.Core.Bool.{Bool, ◌&&◌}
use Prim.Native.Nat.{ℕ}
use native.Mathlib.Omega.{arith}
use lib.Dec.{ltb}
use borrow.Author.Tests.{le-ltb}
use Rattle.orders.specs.Rows.{in_row}
use Rattle.orders.proofs.BitLaws.{none_in}

-- the row of those of the first i events that pass the test
abbrev pub RowOf : ℕ → ℕ → (ℕ → Bool) → Type 0
RowOf row i f = (e : ℕ) → in_row row e ≡ (ltb e i && f e)

pub row-none : (f : ℕ → Bool) → RowOf 0 0 f
row-none f e = none_in e ∙ sym (ap (λ (b : Bool). b && f e) (le-ltb e 0 (omega arith)))
