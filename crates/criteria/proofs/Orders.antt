-- A view that extends an order, by recursion on the view: no entry is before one that stands in front of it. Assumes nothing.
use mathlib.Core.Path.{◌≡◌, refl, sym, ap, ap₂, ◌∙◌, subst}
use mathlib.Core.Logic.{◌⊎◌, inl, inr}
use mathlib.Core.Bool.{Bool, true, false, ◌||◌}
use mathlib.Core.List.{List, [], ◌∷◌, ◌++◌}
use Prim.Native.Nat.{ℕ, zero, suc, ◌≤◌, ◌<◌}
use native.Mathlib.Nat.{not-suc-le-zero, le_of_suc-le-suc}
use native.Mathlib.Omega.{arith}
use lib.Dec.{eqb}
use lib.ListN.{get_or, take}
use borrow.Author.Tests.{eq-eqb, ne_eqb}
use Rattle.criteria.specs.Tests.{keep_if, keep, mem, place, RisingFrom}
use Rattle.criteria.specs.History.{Extends}
use Rattle.criteria.proofs.Lists.{by-test, clash, or-true, true-or-left, true-or-right, at_head, mem-append, mem-get_or, mem-keep, Once, once-head, once-tail, place_in, take-mem}

abbrev pub Ordered : (ℕ → ℕ → Bool) → List ℕ → Type 0
Ordered R [] = Unit {0}
Ordered R (x ∷ v) = ((e : ℕ) → mem e (x ∷ v) ≡ true → R e x ≡ false) × Ordered R v

module _ (R : ℕ → ℕ → Bool) where
  pub extends-ordered : (v : List ℕ) → Extends R v → Ordered R v
  unfolding Extends
  extends-ordered [] x = tt
  extends-ordered (y ∷ v) x = (
    λ e t. by-test (R e y)
        (λ s. let p = place_in e (y ∷ v) t in
        absurd (not-suc-le-zero (x (place e (y ∷ v)) zero p.0 (omega arith) (subst (λ (f : ℕ). R f y ≡ true) (sym p.1) s))))
        (λ f. f),
    extends-ordered v (λ i j p q t. le_of_suc-le-suc (x (suc i) (suc j) (omega arith) (omega arith) t)),
  )

  pub ordered-extends : (v : List ℕ) → Ordered R v → Extends R v
  unfolding Extends
  ordered-extends [] o i j p q t = absurd (not-suc-le-zero p)
  ordered-extends (y ∷ v) o i zero p q t = clash t (o.0 (get_or (y ∷ v) i 0) (mem-get_or (y ∷ v) i p))
  ordered-extends (y ∷ v) o zero (suc j) p q t = omega arith
  ordered-extends (y ∷ v) o (suc i) (suc j) p q t =
      let r = ordered-extends v o.1 i j (le_of_suc-le-suc p) (le_of_suc-le-suc q) t in omega arith

  pub ordered-keep : (f : ℕ → Bool) (v : List ℕ) → Ordered R v → Ordered R (keep f v)
  ordered-keep f [] o = tt
  ordered-keep f (y ∷ v) o = go (f y) (ordered-keep f v o.1)
    where
      go : (b : Bool) → Ordered R (keep f v) → Ordered R (keep_if b y (keep f v))
      go true r = (λ e t. o.0 e (up e (or-true (eqb e y) (mem e (keep f v)) t)), r)
        where
          up : (e : ℕ) → (eqb e y ≡ true) ⊎ (mem e (keep f v) ≡ true) → eqb e y || mem e v ≡ true
          up e (inl s) = true-or-left (mem e v) s
          up e (inr s) = true-or-right (eqb e y) (mem-keep f e v s).1
      go false r = r

  pub ordered-append : (v w : List ℕ) → Ordered R v → Ordered R w
      → ((e f : ℕ) → mem e w ≡ true → mem f v ≡ true → R e f ≡ false) → Ordered R (v ++ w)
  ordered-append [] w o p c = p
  ordered-append (y ∷ v) w o p c = (
    λ e t. at (or-true (eqb e y) (mem e (v ++ w)) t) (λ s. or-true (mem e v) (mem e w) (sym (mem-append e v w) ∙ s)),
    ordered-append v w o.1 p (λ e f s t. c e f s (true-or-right (eqb f y) t)),
  )
    where
      at : {e : ℕ} → (eqb e y ≡ true) ⊎ (mem e (v ++ w) ≡ true) → (mem e (v ++ w) ≡ true → (mem e v ≡ true) ⊎ (mem e w ≡ true)) → R e y ≡ false
      at {e} (inl s) k = o.0 e (true-or-left (mem e v) s)
      at {e} (inr s) k = in_either (k s)
        where
          in_either : (mem e v ≡ true) ⊎ (mem e w ≡ true) → R e y ≡ false
          in_either (inl s) = o.0 e (true-or-right (eqb e y) s)
          in_either (inr s) = c e y s (true-or-left (mem y v) (eq-eqb y y refl))

  pub ordered-take : (k : ℕ) (v : List ℕ) → Ordered R v → Ordered R (take k v)
  ordered-take zero v o = tt
  ordered-take (suc k) [] o = tt
  ordered-take (suc k) (x ∷ v) o =
      (λ e t. o.0 e (up e (or-true (eqb e x) (mem e (take k v)) t)), ordered-take k v o.1)
    where
      up : (e : ℕ) → (eqb e x ≡ true) ⊎ (mem e (take k v) ≡ true) → eqb e x || mem e v ≡ true
      up e (inl s) = true-or-left (mem e v) s
      up e (inr s) = true-or-right (eqb e x) (take-mem e k v s).0

  -- it extends every order that relates less
  pub ordered-less : (S : ℕ → ℕ → Bool) (v : List ℕ) → ((a b : ℕ) → mem a v ≡ true → mem b v ≡ true → S a b ≡ true → R a b ≡ true)
      → Ordered R v → Ordered S v
  ordered-less S [] f o = tt
  ordered-less S (x ∷ v) f o = (
    λ e t. by-test (S e x) (λ s. clash (f e x t (true-or-left (mem x v) (eq-eqb x x refl)) s) (o.0 e t)) (λ s. s),
    ordered-less S v (λ a b s t. f a b (true-or-right (eqb a x) s) (true-or-right (eqb b x) t)) o.1,
  )

  -- of two entries the one that is before the other stands in front of it
  pub ordered-place : (v : List ℕ) → Ordered R v → (a b : ℕ) → mem a v ≡ true → mem b v ≡ true → R a b ≡ true
      → place a v < place b v
  unfolding Extends
  ordered-place v o a b m n t =
      let i = place_in a v m in
      let j = place_in b v n in
      ordered-extends v o (place a v) (place b v) i.0 j.0 (rw (i.1, j.1) t)

  -- two lists of the same numbers, each once, both in an order that compares any two of them, are one list
  pub one-order : (v w : List ℕ) → Once v → Once w → Ordered R v → Ordered R w
      → ((a b : ℕ) → mem a v ≡ true → mem b v ≡ true → (a ≡ b → ⊥) → (R a b ≡ true) ⊎ (R b a ≡ true))
      → ((e : ℕ) → mem e v ≡ mem e w) → v ≡ w
  one-order [] [] a b c d t m = refl
  one-order [] (y ∷ w) a b c d t m = clash (m y ∙ true-or-left (mem y w) (eq-eqb y y refl)) refl
  one-order (x ∷ v) [] a b c d t m = clash (sym (m x) ∙ true-or-left (mem x v) (eq-eqb x x refl)) refl
  one-order (x ∷ v) (y ∷ w) a b c d t m =
      ap₂ (λ (k : ℕ) (l : List ℕ). k ∷ l) same
      (one-order v w (once-tail x v a) (once-tail y w b) c.1 d.1
      (λ e f s u. t e f (true-or-right (eqb e x) s) (true-or-right (eqb f x) u)) tails)
    where
      x-in : mem x (y ∷ w) ≡ true
      x-in = sym (m x) ∙ true-or-left (mem x v) (eq-eqb x x refl)

      y-in : mem y (x ∷ v) ≡ true
      y-in = m y ∙ true-or-left (mem y w) (eq-eqb y y refl)

      no_both : (R x y ≡ true) ⊎ (R y x ≡ true) → ⊥
      no_both (inl s) = clash s (d.0 x x-in)
      no_both (inr s) = clash s (c.0 y y-in)

      same : x ≡ y
      same = at_head x y (λ _ q. q) (λ _ q. absurd (no_both (t x y (true-or-left (mem x v) (eq-eqb x x refl)) y-in q)))

      tails : (e : ℕ) → mem e v ≡ mem e w
      tails e =
          at_head e x
          (λ s q. (ap (λ (k : ℕ). mem k v) q ∙ once-head x v a) ∙ sym (ap (λ (k : ℕ). mem k w) (q ∙ same) ∙ once-head y w b))
          (λ s q. strip s (ne_eqb e y (λ p. q (p ∙ sym same))) (m e))
        where
          strip : eqb e x ≡ false → eqb e y ≡ false → eqb e x || mem e v ≡ eqb e y || mem e w → mem e v ≡ mem e w
          strip p q r = cc

-- a rising list extends every order that goes up
pub rising-above : (b : ℕ) (l : List ℕ) → RisingFrom b l → (e : ℕ) → mem e l ≡ true → b ≤ e
rising-above b (x ∷ l) r e t =
    at_head e x (λ s q. let k = r.0 in omega arith)
    (λ s q. let m = rising-above (suc x) l r.1 e (rw s at t) in let k = r.0 in omega arith)
rising-above b [] r e t = absurd (f t)
  where
    f : false ≡ true → ⊥
    f s = clash s refl

pub rising-ordered : (R : ℕ → ℕ → Bool) → ((a b : ℕ) → R a b ≡ true → a < b) → (b : ℕ) (l : List ℕ) → RisingFrom b l → Ordered R l
rising-ordered R u b [] r = tt
rising-ordered R u b (x ∷ l) r = (
  λ e t. by-test (R e x) (λ s. let k = u e x s in let m = rising-above b (x ∷ l) r e t in
      at_head e x (λ s' q. absurd (omega arith))
      (λ s' q. let z = rising-above (suc x) l r.1 e (rw s' at t) in absurd (omega arith))) (λ f. f),
  rising-ordered R u (suc x) l r.1,
)
