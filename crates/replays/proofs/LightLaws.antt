-- Laws of an array that is made of another, an element at a time. Assumes nothing.
use Prim.Native.Nat.{ℕ, ◌+◌, ◌<◌}
use native.Mathlib.Omega.{arith}
use mathlib.Core.Path.{◌≡◌}
use mathlib.Core.List.{List}
use lib.ListN.{length, get_or, set}
use lib.Seq.{get_or-set_same, get_or-set_other}
use Rattle.layout.proofs.Cases.{by-eq}

-- one element more of an array whose element k is to be g k
pub made_at : {B : Type 0} (g : ℕ → B) (b : B) (ys : List B) (i : ℕ) (y : B) → i < length ys → y ≡ g i
    → ((k : ℕ) → k < i → get_or ys k b ≡ g k) → (k : ℕ) → k < i + 1 → get_or (set ys i y) k b ≡ g k
made_at g b ys i y h q m k l =
    by-eq k i
    (λ e. rw (e, get_or-set_same ys i y b h) q)
    (λ n. rw (get_or-set_other ys i k y b n) (m k (omega (arith, n))))

-- the first i elements are made from those of another array
abbrev pub Made : {A B : Type 0} → (A → B) → A → B → List A → List B → ℕ → Type 0
Made f d b xs ys i = (k : ℕ) → k < i → get_or ys k b ≡ f (get_or xs k d)
