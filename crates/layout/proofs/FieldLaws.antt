-- The fields of a line as pieces of it. Assumes nothing.
use Prim.Native.Nat.{ℕ, suc, ◌+◌, ◌<◌}
use native.Mathlib.Omega.{arith}
use mathlib.Core.Path.{◌≡◌, refl, sym, ap, ap₂, ◌∙◌}
use mathlib.Core.Bool.{Bool, cond}
use mathlib.Core.List.{List, [], ◌∷◌, ◌++◌, map}
use lib.ListN.{length, get_or, length-map}
use Rattle.std.proofs.lemmas.List.{get_or-map}
use lib.Dec.{eqb}
use borrow.Author.Tests.{eq-eqb, ne_eqb}
use Rattle.layout.specs.Pieces.{pieces_from}
use Rattle.layout.specs.Fields.{pieces_text, field_piece}
use Rattle.layout.proofs.Cases.{by-eq}
use Rattle.layout.proofs.LineLaws.{pieces_step}

-- the fields left are none at the same place at which the next one is the last
last_is : (k n m : ℕ) → n ≡ k + suc m → eqb m 0 ≡ eqb (k + 1) n
last_is k n m e =
    by-eq m 0
    (λ z. eq-eqb m 0 z ∙ sym (eq-eqb (k + 1) n (omega arith)))
    (λ z. ne_eqb m 0 z ∙ sym (ne_eqb (k + 1) n (λ y. z (omega arith))))

from_place : (piece : ℕ → List ℕ) (ts : List (List ℕ)) (k n : ℕ) → n ≡ k + length ts
    → ((j : ℕ) → j < length ts → piece (k + j) ≡ get_or ts j [] ++ cond (eqb (k + j + 1) n) 10 32 ∷ [])
    → pieces_from piece k (length ts) ≡ pieces_text ts
unfolding pieces_from pieces_text
from_place piece [] k n e h = refl
from_place piece (t ∷ ts) k n e h =
    let z : k + 0 ≡ k = omega arith in
    let first : piece k ≡ t ++ cond (eqb (k + 1) n) 10 32 ∷ [] = rw z at (h 0 (omega arith)) in
    let rest =
    from_place piece ts (k + 1) n (omega arith)
    (λ j p. let s : k + suc j ≡ k + 1 + j = omega arith in rw s at (h (suc j) (omega arith))) in
    ap₂ (λ (x y : List ℕ). x ++ y) (first ∙ ap (λ (b : Bool). t ++ cond b 10 32 ∷ []) (sym (last_is k n (length ts) e))) rest
    ∙ sym (pieces_step t ts)

fields_are : (ts : List (List ℕ)) → pieces_from (field_piece ts) 0 (length ts) ≡ pieces_text ts
fields_are ts =
    from_place (field_piece ts) ts 0 (length ts) (omega arith) (λ j l. let z : 0 + j ≡ j = omega arith in rw z refl)

-- the same of the field i of a list, with the byte b behind it
pub field_is : {F : Type 0} (text : F → List ℕ) (fs : List F) (i b : ℕ) (d : F) → i < length fs → b ≡ cond (eqb (i + 1) (length fs)) 10 32
    → field_piece (map text fs) i ≡ text (get_or fs i d) ++ b ∷ []
field_is text fs i b d l e = rw (length-map fs text, get_or-map text fs i d [] l, e) refl

pub line_is : {F : Type 0} (text : F → List ℕ) (fs : List F) → pieces_from (field_piece (map text fs)) 0 (length fs) ≡ pieces_text (map text fs)
line_is text fs = rw (length-map fs text) at (fields_are (map text fs))
