-- Laws of `same`. Assumes nothing.
use Prim.Native.Nat.{ℕ}
use mathlib.Core.Path.{◌≡◌, refl, sym, ap, ap₂, ◌∙◌}
use mathlib.Core.Bool.{Bool, true, false, ◌&&◌, false≢true}
use mathlib.Core.List.{List, [], ◌∷◌}
use lib.Dec.{eqb}
use lib.Pointwise.{pointwise}
use borrow.Author.Tests.{eq-eqb, ne_eqb, eqb-true}
use Rattle.layout.specs.Word.{same}
use Rattle.layout.proofs.Cases.{by_bool, by-eq, and_left, and_right}

pub same_true : (s w : List ℕ) → same s w ≡ true → s ≡ w
unfolding same
same_true [] [] e = refl
same_true [] (y ∷ w) e = absurd (false≢true e)
same_true (x ∷ s) [] e = absurd (false≢true e)
same_true (x ∷ s) (y ∷ w) e =
    ap₂ {C = List ℕ} ◌∷◌ (eqb-true x y (and_left (eqb x y) (same s w) e))
    (same_true s w (and_right (eqb x y) (same s w) e))

pub same_refl : (s : List ℕ) → same s s ≡ true
unfolding same
same_refl [] = refl
same_refl (x ∷ s) = rw (eq-eqb x x refl) (same_refl s)

pub same_false : (s w : List ℕ) → (s ≡ w → ⊥) → same s w ≡ false
same_false s w h = by_bool (same s w) (λ e. absurd (h (same_true s w e))) (λ e. e)

-- `same` is the library's word
pub same_is_pointwise : (s w : List ℕ) → same s w ≡ pointwise eqb s w
unfolding same
same_is_pointwise [] [] = refl
same_is_pointwise [] (y ∷ w) = refl
same_is_pointwise (x ∷ s) [] = refl
same_is_pointwise (x ∷ s) (y ∷ w) = ap (λ (b : Bool). eqb x y && b) (same_is_pointwise s w)

eqb_flipped : (x y : ℕ) → eqb x y ≡ eqb y x
eqb_flipped x y = by-eq x y (λ e. eq-eqb x y e ∙ sym (eq-eqb y x (sym e))) (λ h. ne_eqb x y h ∙ sym (ne_eqb y x (λ e. h (sym e))))

-- the same with the word first
pub same_is_flipped : (s w : List ℕ) → same s w ≡ pointwise eqb w s
unfolding same
same_is_flipped [] [] = refl
same_is_flipped [] (y ∷ w) = refl
same_is_flipped (x ∷ s) [] = refl
same_is_flipped (x ∷ s) (y ∷ w) = ap₂ (λ (a b : Bool). a && b) (eqb_flipped x y) (same_is_flipped s w)
