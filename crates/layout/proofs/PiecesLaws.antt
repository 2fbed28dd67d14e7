-- Laws of pieces one behind the other. Assumes nothing.
use Prim.Native.Nat.{ℕ, suc, ◌+◌, ◌-◌, ◌<◌, ◌≤◌}
use native.Mathlib.Omega.{arith}
use mathlib.Core.Path.{◌≡◌, refl, ap, ◌∙◌}
use mathlib.Core.List.{List, [], ◌∷◌, ◌++◌}
use lib.ListN.{length, take, drop, set, length-append}
use borrow.Rule.Slice.PartMut.{put_mid}
use Rattle.layout.specs.Fill.{fill}
use Rattle.layout.specs.Pieces.{pieces_from}
use Rattle.layout.proofs.FillLaws.{fill-byte, writing-first, last-part}

pub pieces_next : (piece : ℕ → List ℕ) (i n : ℕ) → i < n → pieces_from piece i (n - i) ≡ piece i ++ pieces_from piece (i + 1) (n - (i + 1))
unfolding pieces_from
pieces_next piece i n h = let k : n - i ≡ suc (n - (i + 1)) = omega arith in rw k refl

pub pieces_from_end : (piece : ℕ → List ℕ) (i n : ℕ) → n ≤ i → pieces_from piece i (n - i) ≡ []
unfolding pieces_from
pieces_from_end piece i n h = let k : n - i ≡ 0 = omega arith in rw k refl

pub pieces_long : (piece : ℕ → List ℕ) (i n : ℕ) → i < n
    → length (pieces_from piece i (n - i)) ≡ length (piece i) + length (pieces_from piece (i + 1) (n - (i + 1)))
pieces_long piece i n h = ap length (pieces_next piece i n h) ∙ length-append (piece i) (pieces_from piece (i + 1) (n - (i + 1)))

-- a byte behind a text, written by a callee into a part that has room for both
pub byte_then : (w b b₁ : List ℕ) (k x : ℕ) → length (w ++ x ∷ []) ≤ length b → k ≡ length w → b₁ ≡ fill w b
    → (k + 1 ≡ length (w ++ x ∷ [])) × (set b₁ k x ≡ fill (w ++ x ∷ []) b)
byte_then w b b₁ k x room long filled =
    let l = length-append w (x ∷ []) in
    (omega arith, fill-byte w b b₁ k x long filled (omega arith))

-- a text t behind a text w, each written by a callee
pub text_then : (w t b b₁ ys : List ℕ) (k m : ℕ) → length (w ++ t) ≤ length b → k ≡ length w → b₁ ≡ fill w b
    → m ≡ length t → ys ≡ fill t (take (length b₁ - k) (drop k b₁))
    → (k + m ≡ length (w ++ t)) × (put_mid k (length b₁ - k) b₁ ys ≡ fill (w ++ t) b)
text_then w t b b₁ ys k m room long filled long' filled' =
    last-part (writing-first (w ++ t) b w t room refl k b₁ long filled) ys filled' m long'
