-- The tests over 64 places are those over the events of a history: nothing stands past the last event. Assumes nothing.
use Prim.Native.Nat.{ℕ, zero, suc, ◌≤◌, ◌<◌}
use native.Mathlib.Omega.{arith}
use mathlib.Core.Path.{◌≡◌, refl, ap, ◌∙◌}
use mathlib.Core.Bool.{Bool, true, false, not, ◌&&◌, ◌||◌, or-false}
use mathlib.Core.List.{List}
use lib.Dec.{eqb}
use Rattle.layout.proofs.Cases.{by-lt, by_bool}
use Rattle.criteria.specs.Tests.{any, count, one, mem}
use Rattle.criteria.specs.Check.{lacks_past, not_its_set}
use Rattle.criteria.proofs.Lists.{count-out}
use Rattle.orders.proofs.BitLaws.{any_same}

-- a test that passes nowhere from n on
pub any-fewer : (m n : ℕ) (f : ℕ → Bool) → n ≤ m → ((k : ℕ) → n ≤ k → f k ≡ false) → any m f ≡ any n f
any-fewer zero n f h out = let z : n ≡ zero = omega arith in rw z
any-fewer (suc m) n f h out =
    by-lt n (suc m)
    (λ l. ap (λ (t : Bool). any m f || t) (out m (omega arith)) ∙ or-false (any m f) ∙ any-fewer m n f (omega arith) out)
    (λ l. let z : n ≡ suc m = omega arith in rw z)

-- an order of the events below n
module _ (n : ℕ) (few : n ≤ 64) (R : ℕ → ℕ → Bool) (inside : (a b : ℕ) → R a b ≡ true → (a < n) × (b < n)) where
  outside : (a b : ℕ) → n ≤ a → R a b ≡ false
  outside a b h = by_bool (R a b) (λ t. let p = inside a b t in absurd (omega arith)) (λ f. f)

  pub past-size : (e : ℕ) → lacks_past 64 R e ≡ lacks_past n R e
  unfolding lacks_past
  past-size e =
      any-fewer 64 n (λ f. R f e && any 64 (λ g. R g f && not (R g e))) few (λ f h. rw (outside f e h) refl)
      ∙ any_same n (λ f. R f e && any 64 (λ g. R g f && not (R g e))) (λ f. R f e && any n (λ g. R g f && not (R g e)))
      (λ f l. ap (λ (t : Bool). R f e && t) (any-fewer 64 n (λ g. R g f && not (R g e)) few (λ g h. rw (outside g f h) refl)))

-- a set and a view of events below n
pub set-size : (n : ℕ) → n ≤ 64 → (P : ℕ → Bool) (v : List ℕ) → ((e : ℕ) → P e ≡ true → e < n) → ((e : ℕ) → mem e v ≡ true → e < n)
    → not_its_set 64 P v ≡ not_its_set n P v
unfolding not_its_set
set-size n few P v in_p in_v =
    any-fewer 64 n (λ e. not (eqb (count e v) (one (P e)))) few
    (λ e h.
    let p : P e ≡ false = by_bool (P e) (λ t. let l = in_p e t in absurd (omega arith)) (λ f. f) in
    let m : mem e v ≡ false = by_bool (mem e v) (λ t. let l = in_v e t in absurd (omega arith)) (λ f. f) in
    rw (p, count-out e v m))
