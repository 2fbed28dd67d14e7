-- A rising list, as `is_sorted_by(|a, b| a < b)` answers it. Assumes nothing.
use Prim.Native.Nat.{ℕ, zero, suc, ◌<◌}
use native.Mathlib.Nat.{not-suc-le-zero}
use native.Mathlib.Numerals.{add-one}
use native.Mathlib.Omega.{arith}
use mathlib.Core.Path.{◌≡◌, refl, sym}
use mathlib.Core.Bool.{Bool, true, false}
use mathlib.Core.List.{List, [], ◌∷◌}
use lib.ListN.{length, get_or}
use lib.Dec.{ltb}
use Rattle.std.specs.List.{IsAllAdjacentAnswer}
use Rattle.layout.proofs.Cases.{and-false}
use Rattle.certificate.specs.Faults.{rising}

rising_if : (xs : List ℕ) → ((k : ℕ) → suc k < length xs → true ≡ ltb (get_or xs k 0) (get_or xs (suc k) 0)) → rising xs ≡ true
unfolding rising
rising_if [] h = refl
rising_if (x ∷ []) h = refl
rising_if (x ∷ y ∷ ys) h = rw (sym (h 0 (omega arith))) (rising_if (y ∷ ys) (λ k l. h (suc k) (omega arith)))

not_rising : (xs : List ℕ) (k : ℕ) → suc k < length xs → false ≡ ltb (get_or xs k 0) (get_or xs (suc k) 0) → rising xs ≡ false
unfolding rising
not_rising [] k l e = absurd (not-suc-le-zero l)
not_rising (x ∷ []) k l e = absurd (omega arith)
not_rising (x ∷ y ∷ ys) zero l e = rw (sym e) refl
not_rising (x ∷ y ∷ ys) (suc k) l e = rw (not_rising (y ∷ ys) k (omega arith) e) (and-false (ltb x y))

pub rising_is : (xs : List ℕ) (r : Bool) → IsAllAdjacentAnswer (λ x y b. b ≡ ltb x y) xs r → r ≡ rising xs
rising_is xs true h = sym (rising_if xs (λ k l. rw add-one at (h k 0 (omega arith))))
rising_is xs false h = sym (not_rising xs h.0 (omega (arith, h.1)) (rw add-one at (h.2 0)))
