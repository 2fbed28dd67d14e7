-- A number as a set of bits: one bit alone, the bits of two sets together, and a set with no bit. Assumes nothing.
use mathlib.Core.Path.{◌≡◌, refl, sym, ap, ◌∙◌}
use mathlib.Core.Bool.{Bool, false, not, ◌&&◌, ◌||◌, true≢false}
use Prim.Native.Nat.{ℕ, zero, suc, ◌-◌, ◌*◌, ◌/◌, ◌%◌, ◌^◌, ◌≤◌, ◌<◌, min, max}
use native.Mathlib.Omega.{arith}
use lib.Dec.{eqb}
use lib.Bits.{bit_and, bit_or}
use mir.Syntax.{w64}
use Rattle.std.specs.Int.{bit_at}
use Rattle.std.proofs.lemmas.Nat.{one_shl}
use Rattle.std.proofs.lemmas.Nat.Bits.{bit_at-zero, bit_at-lt, bit_at_and, bit_at_or, bit_at_not, bit_at_above, bit_at-pow_same, bit_at-pow_other, shr_and_one, same_from_bits_below}
use Rattle.layout.proofs.Cases.{by-lt}
use Rattle.criteria.specs.Tests.{any}
use Rattle.criteria.proofs.Lists.{by-test, clash, at_head, any_some, any_none}
use Rattle.orders.specs.Rows.{in_row}

-- ---- the bits of two numbers
one-or : (y z : ℕ) → y < 2 → z < 2 → eqb (max y z) 1 ≡ (eqb y 1 || eqb z 1)
one-or zero zero h l = refl
one-or zero (suc zero) h l = refl
one-or (suc zero) zero h l = refl
one-or (suc zero) (suc zero) h l = refl
one-or (suc (suc y)) z h l = absurd (omega arith)
one-or zero (suc (suc z)) h l = absurd (omega arith)
one-or (suc zero) (suc (suc z)) h l = absurd (omega arith)

one-and : (y z : ℕ) → y < 2 → z < 2 → eqb (min y z) 1 ≡ (eqb y 1 && eqb z 1)
one-and zero zero h l = refl
one-and zero (suc zero) h l = refl
one-and (suc zero) zero h l = refl
one-and (suc zero) (suc zero) h l = refl
one-and (suc (suc y)) z h l = absurd (omega arith)
one-and zero (suc (suc z)) h l = absurd (omega arith)
one-and (suc zero) (suc (suc z)) h l = absurd (omega arith)

one-not : (y : ℕ) → y < 2 → eqb (1 - y) 1 ≡ not (eqb y 1)
one-not zero h = refl
one-not (suc zero) h = refl
one-not (suc (suc y)) h = absurd (omega arith)

pub row-bit : (a g : ℕ) → eqb (bit_and (a / 2 ^ g) 1) 1 ≡ in_row a g
unfolding in_row
row-bit a g = ap (λ (x : ℕ). eqb x 1) (shr_and_one a g)

pub row-or : (a b g : ℕ) → in_row (bit_or a b) g ≡ (in_row a g || in_row b g)
unfolding in_row
row-or a b g = ap (λ (x : ℕ). eqb x 1) (bit_at_or a b g) ∙ one-or (bit_at a g) (bit_at b g) (bit_at-lt a g) (bit_at-lt b g)

pub row-and : (a b g : ℕ) → in_row (bit_and a b) g ≡ (in_row a g && in_row b g)
unfolding in_row
row-and a b g = ap (λ (x : ℕ). eqb x 1) (bit_at_and a b g) ∙ one-and (bit_at a g) (bit_at b g) (bit_at-lt a g) (bit_at-lt b g)

pub row-not : (a g : ℕ) → a < 2 ^ 64 → g < 64 → in_row (18446744073709551615 - a) g ≡ not (in_row a g)
unfolding in_row
row-not a g h l = ap (λ (x : ℕ). eqb x 1) (bit_at_not w64 a g h l) ∙ one-not (bit_at a g) (bit_at-lt a g)

-- nothing is in a row from 64 on
row-above : (a g : ℕ) → a < 2 ^ 64 → 64 ≤ g → in_row a g ≡ false
unfolding in_row
row-above a g h l = ap (λ (x : ℕ). eqb x 1) (bit_at_above a 64 g h l)

pub row-except : (a b g : ℕ) → a < 2 ^ 64 → b < 2 ^ 64 → in_row (bit_and a (18446744073709551615 - b)) g ≡ (in_row a g && not (in_row b g))
row-except a b g h k =
    row-and a (18446744073709551615 - b) g ∙ by-lt g 64
    (λ l. ap (λ (t : Bool). in_row a g && t) (row-not b g k l))
    (λ l. rw (row-above a g h l) refl)

-- ---- one bit alone, as the code shifts it
pub row_one : (f g : ℕ) → f < 64 → in_row ((1 * 2 ^ f) % 18446744073709551616) g ≡ eqb g f
unfolding in_row
row_one f g h =
    ap (λ (x : ℕ). eqb (bit_at x g) 1) (one_shl f 64 h) ∙ at_head g f
    (λ s q. ap (λ (k : ℕ). eqb (bit_at (2 ^ f) k) 1) q ∙ ap (λ (x : ℕ). eqb x 1) (bit_at-pow_same f) ∙ sym s)
    (λ s q. ap (λ (x : ℕ). eqb x 1) (bit_at-pow_other f g q) ∙ sym s)

-- ---- no bit
not-one : (y : ℕ) → y < 2 → eqb y 1 ≡ false → y ≡ 0
not-one zero h e = refl
not-one (suc zero) h e = absurd (true≢false e)
not-one (suc (suc y)) h e = absurd (omega (arith, h))

-- no event is in the row 0, and some event is in every other
pub none_in : (g : ℕ) → in_row 0 g ≡ false
unfolding in_row
none_in g = ap (λ (x : ℕ). eqb x 1) (bit_at-zero g)

pub row-some : (m : ℕ) → m < 2 ^ 64 → not (eqb m 0) ≡ any 64 (in_row m)
unfolding in_row
row-some m h =
    at_head m 0
    (λ s q. ap not s ∙ sym (by-test (any 64 (in_row m)) (λ t. let x = any_some 64 (in_row m) t in clash x.2 (ap (λ (k : ℕ). in_row k x.0) q ∙ none_in x.0)) (λ t. t)))
    (λ s q. ap not s ∙ sym (by-test (any 64 (in_row m)) (λ t. t)
    (λ t. absurd (q (same_from_bits_below 64 m 0 h (omega arith) (λ g l. not-one (bit_at m g) (bit_at-lt m g) (any_none 64 (in_row m) t g l) ∙ sym (bit_at-zero g)))))))

-- tests that agree below n find the same
pub any_same : (n : ℕ) (f g : ℕ → Bool) → ((i : ℕ) → i < n → f i ≡ g i) → any n f ≡ any n g
any_same zero f g e = refl
any_same (suc n) f g e = rw (any_same n f g (λ i l. e i (omega arith)), e n (omega arith))

-- what the functions of sets cite
pub ruleset row_laws = (row-bit, row-or, row-and, row-not, row-except, row_one, row-some)
