-- What a search for the lowest number gives to the search for what stands at it. Assumes nothing.
use Prim.Native.Nat.{ℕ, zero, suc, ◌<◌}
use native.Mathlib.Omega.{arith}
use mathlib.Core.Path.{◌≡◌, refl, sym, ap, ◌∙◌}
use mathlib.Core.Bool.{Bool, true, false}
use mathlib.Core.Option.{Option, none, some}
use Rattle.criteria.specs.Tests.{or, found_if, lowest}

-- searches that agree below n find the same
pub lowest-same : {A : Type 0} (n : ℕ) (f g : ℕ → Option A) → ((k : ℕ) → k < n → f k ≡ g k) → lowest n f ≡ lowest n g
lowest-same zero f g e = refl
lowest-same (suc n) f g e = rw (lowest-same n f g (λ k l. e k (omega arith)), e n (omega arith))

-- tests that agree below n find the same
pub found-same : {A : Type 0} (n : ℕ) (s t : ℕ → Bool) (F : ℕ → A) → ((k : ℕ) → k < n → s k ≡ t k)
    → lowest n (λ e. found_if (s e) (F e)) ≡ lowest n (λ e. found_if (t e) (F e))
found-same n s t F e =
    lowest-same n (λ k. found_if (s k) (F k)) (λ k. found_if (t k) (F k)) (λ k l. ap (λ (b : Bool). found_if b (F k)) (e k l))

module _ {A : Type 0} (t : ℕ → Bool) (F : ℕ → A) where
  abbrev moved : Option ℕ → Option A
  moved none = none
  moved (some e) = some (F e)

  moved-or : (a b : Option ℕ) → moved (or a b) ≡ or (moved a) (moved b)
  moved-or none b = refl
  moved-or (some e) b = refl

  moved-if : (b : Bool) (e : ℕ) → moved (found_if b e) ≡ found_if b (F e)
  moved-if true e = refl
  moved-if false e = refl

  -- what stands at the lowest number is found at it
  moved-lowest : (n : ℕ) → moved (lowest n (λ e. found_if (t e) e)) ≡ lowest n (λ e. found_if (t e) (F e))
  moved-lowest zero = refl
  moved-lowest (suc n) = moved-or (lowest n (λ e. found_if (t e) e)) (found_if (t n) n) ∙ rw (moved-lowest n, moved-if (t n) n)

  pub found_some : (n r : ℕ) → some r ≡ lowest n (λ e. found_if (t e) e) → lowest n (λ e. found_if (t e) (F e)) ≡ some (F r)
  found_some n r q = sym (moved-lowest n) ∙ ap moved (sym q)

  pub found_none : (n : ℕ) → none ≡ lowest n (λ e. found_if (t e) e) → lowest n (λ e. found_if (t e) (F e)) ≡ none
  found_none n q = sym (moved-lowest n) ∙ ap moved (sym q)
