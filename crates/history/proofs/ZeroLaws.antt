-- What `==` with zeros says: the library's word for it, and `all_zero`. Assumes nothing.
use Prim.Native.Nat.{ℕ, zero, suc}
use Rattle.std.proofs.Common.{arith}
use Rattle.std.proofs.lemmas.Bool.Decides.{nat_tests}
use mathlib.Core.Path.{◌≡◌, refl}
use mathlib.Core.Bool.{◌&&◌}
use mathlib.Core.List.{List, [], ◌∷◌}
use lib.ListN.{length, replicate}
use lib.Dec.{eqb}
use lib.Pointwise.{pointwise}
use Rattle.history.specs.Readable.{all_zero}

pub zeros : (n : ℕ) (vs : List ℕ) → pointwise eqb vs (replicate n 0) ≡ eqb (length vs) n && all_zero vs
unfolding all_zero
zeros zero [] = refl
zeros zero (v ∷ vs) = grind (arith, nat_tests)
zeros (suc n) [] = grind (arith, nat_tests)
zeros (suc n) (v ∷ vs) = let ih = zeros n vs in grind (arith, nat_tests, ih)

-- the values of an answer
pub eight_zeros : (vs : List ℕ) → pointwise eqb vs (replicate 8 0) ≡ eqb (length vs) 8 && all_zero vs
eight_zeros = zeros 8

-- the events of a row
pub row_zeros : (vs : List ℕ) → pointwise eqb vs (replicate 64 0) ≡ eqb (length vs) 64 && all_zero vs
row_zeros = zeros 64
