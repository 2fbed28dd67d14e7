-- Laws of the fields of a line as they are written. Assumes nothing.
use Prim.Native.Nat.{ℕ, ◌+◌, ◌-◌, ◌≤◌, ◌<◌}
use native.Mathlib.Numerals.{add-one}
use native.Mathlib.Omega.{arith}
use mathlib.Core.Path.{◌≡◌, refl, sym, ap, ◌∙◌}
use mathlib.Core.Bool.{Bool, cond}
use mathlib.Core.List.{List, [], ◌∷◌, ◌++◌, map, append_assoc, append-nil}
use lib.ListN.{length, get_or, take, drop, length-take, length-drop, length-map, drop_of_length-le}
use lib.Seq.{slice-cons, length-take-le}
use lib.Dec.{eqb}
use borrow.Author.Tests.{eq-eqb, ne_eqb}
use Rattle.layout.specs.Split.{join}
use Rattle.layout.specs.Fields.{pieces_text}
use Rattle.layout.proofs.Cases.{by-eq}

-- one field and the byte behind it
pub pieces_step : (f : List ℕ) (fs : List (List ℕ)) → pieces_text (f ∷ fs) ≡ (f ++ cond (eqb (length fs) 0) 10 32 ∷ []) ++ pieces_text fs
unfolding pieces_text
pieces_step f [] = sym (append-nil (f ++ 10 ∷ []))
pieces_step f (g ∷ fs) =
    rw (ne_eqb (length (g ∷ fs)) 0 (λ z. absurd (omega arith))) (sym (append_assoc f (32 ∷ []) (pieces_text (g ∷ fs))))

pieces_none : pieces_text [] ≡ []
unfolding pieces_text
pieces_none = refl

-- ---- a loop over the first n fields, at the place i
module _ {F : Type 0} (none : F) (g : F → List ℕ) (fields : List F) (n i : ℕ) (few : n ≤ length fields) where
  left-long : length (drop (i + 1) (take n fields)) ≡ n - (i + 1)
  left-long = length-drop (i + 1) (take n fields) ∙ ap (λ (k : ℕ). k - (i + 1)) (length-take-le n fields few)

  last-is : i < n → eqb (length (map g (drop (i + 1) (take n fields)))) 0 ≡ eqb (i + 1) n
  last-is h =
      let many : length (map g (drop (i + 1) (take n fields))) ≡ n - (i + 1) = length-map (drop (i + 1) (take n fields)) g ∙ left-long in
      by-eq (i + 1) n
      (λ e. eq-eqb (length (map g (drop (i + 1) (take n fields)))) 0 (omega arith) ∙ sym (eq-eqb (i + 1) n e))
      (λ e. ne_eqb (length (map g (drop (i + 1) (take n fields)))) 0 (λ z. e (omega arith)) ∙ sym (ne_eqb (i + 1) n e))

  pub pieces-at : i < n → (b : ℕ) → b ≡ cond (eqb (i + 1) n) 10 32
      → pieces_text (map g (drop i (take n fields))) ≡ (g (get_or fields i none) ++ b ∷ []) ++ pieces_text (map g (drop (i + 1) (take n fields)))
  pieces-at h b e =
      ap (λ (l : List F). pieces_text (map g l)) (slice-cons i n fields none h few ∙ ap (λ (k : ℕ). get_or fields i none ∷ drop k (take n fields)) (sym (add-one i)))
      ∙ pieces_step (g (get_or fields i none)) (map g (drop (i + 1) (take n fields)))
      ∙ ap (λ (t : Bool). (g (get_or fields i none) ++ cond t 10 32 ∷ []) ++ pieces_text (map g (drop (i + 1) (take n fields)))) (last-is h)
      ∙ ap (λ (x : ℕ). (g (get_or fields i none) ++ x ∷ []) ++ pieces_text (map g (drop (i + 1) (take n fields)))) (sym e)

  pub pieces_end : n ≤ i → pieces_text (map g (drop i (take n fields))) ≡ []
  pieces_end h =
      ap (λ (l : List F). pieces_text (map g l)) (drop_of_length-le (take n fields) {i = i} (omega (arith, length-take n fields)))
      ∙ pieces_none

-- ---- the fields of a line are its text and its line feed
pub pieces-join : (f : List ℕ) (fs : List (List ℕ)) → pieces_text (f ∷ fs) ≡ join 32 (f ∷ fs) ++ 10 ∷ []
unfolding pieces_text join
pieces-join f [] = refl
pieces-join f (g ∷ fs) = ap (λ (l : List ℕ). f ++ 32 ∷ l) (pieces-join g fs) ∙ sym (append_assoc f (32 ∷ join 32 (g ∷ fs)) (10 ∷ []))
