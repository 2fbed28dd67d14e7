-- Case distinctions that keep the equation or the order that they decide. Assumes nothing.
use Prim.Native.Nat.{ℕ, ◌≤◌, ◌<◌}
use mathlib.Core.Path.{◌≡◌, refl}
use mathlib.Core.Bool.{Bool, true, false, cond, ◌&&◌}
use lib.Dec.{eqb, ltb}
use borrow.Author.Tests.{ltb-true, ltb-false, eqb-true, eqb-false}
use Rattle.std.proofs.lemmas.Bool.{and_parts}

pub by_bool : {C : Type 0} (t : Bool) → (t ≡ true → C) → (t ≡ false → C) → C
by_bool true f g = f refl
by_bool false f g = g refl

pub by-lt : {C : Type 0} (a b : ℕ) → (a < b → C) → (b ≤ a → C) → C
by-lt a b f g = by_bool (ltb a b) (λ e. f (ltb-true a b e)) (λ e. g (ltb-false a b e))

pub by-eq : {C : Type 0} (a b : ℕ) → (a ≡ b → C) → ((a ≡ b → ⊥) → C) → C
by-eq a b f g = by_bool (eqb a b) (λ e. f (eqb-true a b e)) (λ e. g (eqb-false a b e))

-- what holds of both holds of whichever is taken
pub in-either : {A : Type 0} (P : A → Type 0) (t : Bool) (r q : A) → P r → P q → P (cond t r q)
in-either P true r q a b = a
in-either P false r q a b = b

pub and_left : (a b : Bool) → a && b ≡ true → a ≡ true
and_left a b e = (and_parts a b e).0

pub and_right : (a b : Bool) → a && b ≡ true → b ≡ true
and_right a b e = (and_parts a b e).1

pub true-and : {a b : Bool} → a ≡ true → b ≡ true → a && b ≡ true
true-and p q = cc

pub and-false : (a : Bool) → a && false ≡ false
and-false true = refl
and-false false = refl
