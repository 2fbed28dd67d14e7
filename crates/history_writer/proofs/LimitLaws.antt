-- The first values of a list are below their bound. Assumes nothing.
use Prim.Native.Nat.{ℕ, zero, suc, ◌<◌}
use native.Mathlib.Omega.{arith}
use mathlib.Core.Path.{◌≡◌, refl}
use mathlib.Core.Bool.{true}
use mathlib.Core.List.{List, [], ◌∷◌}
use lib.ListN.{length, get_or, take}
use borrow.Author.Tests.{lt-ltb}
use Rattle.history.specs.Readable.{all_less}

-- the first n of numbers below a bound
pub firsts_less : (bound n : ℕ) (xs : List ℕ) → ((i : ℕ) → i < length xs → get_or xs i 0 < bound) → all_less bound (take n xs) ≡ true
unfolding all_less
firsts_less bound zero xs h = refl
firsts_less bound (suc n) [] h = refl
firsts_less bound (suc n) (x ∷ xs) h =
    rw (lt-ltb x bound (h 0 (omega arith)), firsts_less bound n xs (λ i l. h (suc i) (omega arith))) refl
