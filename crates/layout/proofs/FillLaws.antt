-- Laws of writing a text into a buffer, one piece after the other. Assumes nothing.
use Prim.Native.Nat.{ℕ, suc, ◌+◌, ◌-◌, ◌≤◌, ◌<◌}
use native.Mathlib.Numerals.{add-one}
use native.Mathlib.Omega.{arith}
use mathlib.Core.Path.{◌≡◌, refl, sym, ap, ap₂, ◌∙◌}
use mathlib.Core.List.{List, [], ◌∷◌, ◌++◌, append_assoc, append-nil}
use lib.ListN.{length, take, drop, set, length-append, length-drop, take-append-drop, drop_of_length-le}
use lib.Seq.{length-take-le, take_all, drop-drop, take_at, drop_at, take-append-add, drop-append-add, take-suc-set, drop-set-lt}
use borrow.Rule.Slice.PartMut.{put_mid}
use borrow.Author.Tests.{le-leb, lt-leb}
use Rattle.std.specs.Prelude.{Some, None}
use Rattle.layout.specs.Fill.{fill, written, after}
use Rattle.layout.specs.Steps.Fill.{fill_at}

-- ---- a text that fits, and one that does not
module _ (t b : List ℕ) where
  pub fill-length : length t ≤ length b → length (fill t b) ≡ length b
  unfolding fill
  fill-length h = omega (arith, length-append t (drop (length t) b), length-drop (length t) b)

  pub written-fits : length t ≤ length b → written t b ≡ Some (length t)
  unfolding written
  written-fits h = rw (le-leb (length t) (length b) h)

  pub after-fits : length t ≤ length b → after t b ≡ fill t b
  unfolding after
  after-fits h = rw (le-leb (length t) (length b) h)

  pub written-short : length b < length t → written t b ≡ None
  unfolding written
  written-short h = rw (lt-leb (length t) (length b) h)

  pub after-short : length b < length t → after t b ≡ b
  unfolding after
  after-short h = rw (lt-leb (length t) (length b) h)

-- ---- the law of two writes: w at a place, and t behind it, are w ++ t at that place
pub fill-then : (w t b : List ℕ) → length w ≤ length b → fill_at (length w) t (fill w b) ≡ fill (w ++ t) b
unfolding fill fill_at
fill-then w t b h =
    rw (
      take_at w (drop (length w) b) (length w) refl,
      drop_at w (drop (length w) b) (length w) refl,
      drop-drop (length t) (length w) b,
      length-append w t,
      append_assoc,
    )

module _ (at : ℕ) (w t b : List ℕ) (room : at + length w ≤ length b) where
  before : length (take at b) ≡ at
  before = length-take-le at b (omega arith)

  pub fill_at-then : fill_at (at + length w) t (fill_at at w b) ≡ fill_at at (w ++ t) b
  unfolding fill_at
  fill_at-then =
      let k : at + length w ≡ length (take at b) + length w = omega (arith, before) in
      let f : take (at + length w) (take at b ++ fill w (drop at b)) ≡ take at b ++ take (length w) (fill w (drop at b)) =
      ap (λ (n : ℕ). take n (take at b ++ fill w (drop at b))) k ∙ take-append-add (take at b) (fill w (drop at b)) (length w) in
      let g : drop (at + length w) (take at b ++ fill w (drop at b)) ≡ drop (length w) (fill w (drop at b)) =
      ap (λ (n : ℕ). drop n (take at b ++ fill w (drop at b))) k ∙ drop-append-add (take at b) (fill w (drop at b)) (length w) in
      ap₂ (λ (x y : List ℕ). x ++ fill t y) f g
      ∙ append_assoc (take at b) (take (length w) (fill w (drop at b))) (fill t (drop (length w) (fill w (drop at b))))
      ∙ ap (λ (l : List ℕ). take at b ++ l) (fill-then w t (drop at b) (omega (arith, length-drop at b)))

pub fill_at-length : (at : ℕ) (w b : List ℕ) → at + length w ≤ length b → length (fill_at at w b) ≡ length b
unfolding fill_at
fill_at-length at w b room =
    omega (
      arith,
      length-append (take at b) (fill w (drop at b)),
      length-take-le at b (omega arith),
      length-drop at b,
      fill-length w (drop at b) (omega (arith, length-drop at b)),
    )

pub fill_at-none : (at : ℕ) (b : List ℕ) → fill_at at [] b ≡ b
unfolding fill_at fill
fill_at-none at b = take-append-drop at b

pub fill_at-zero : (t b : List ℕ) → fill_at 0 t b ≡ fill t b
unfolding fill_at
fill_at-zero t b = refl

-- one byte, and a text behind it
pub fill_at-set : (at x : ℕ) (t b : List ℕ) → at < length b → fill_at (at + 1) t (set b at x) ≡ fill_at at (x ∷ t) b
unfolding fill_at fill
fill_at-set at x t b h =
    let k : suc at + length t ≡ at + suc (length t) = omega arith in
    rw (add-one at, take-suc-set b at x h, drop-set-lt (suc at) b at x (omega arith), append_assoc, drop-drop, drop-drop, k)

-- ---- a part that goes to the end, `&mut b[at..]`, and the whole when it is back
pub tail-part : {A : Type 0} (s : List A) (a : ℕ) → take (length s - a) (drop a s) ≡ drop a s
tail-part s a = take_all (length s - a) (drop a s) (omega (arith, length-drop a s))

-- the part is filled with w, so the whole is, from that place on
pub part_filled : (at : ℕ) (w b ys : List ℕ) → ys ≡ fill w (take (length b - at) (drop at b))
    → put_mid at (length b - at) b ys ≡ fill_at at w b
unfolding fill_at
part_filled at w b ys e =
    rw (drop_of_length-le (drop at b) {i = length b - at} (omega (arith, length-drop at b)), append-nil ys, e, tail-part b at)

pub part_room : (at : ℕ) (w b : List ℕ) → at + length w ≤ length b → length w ≤ length (take (length b - at) (drop at b))
part_room at w b h = rw (tail-part b at) (omega (arith, length-drop at b))

-- ---- a text that is being written: the buffer b, which has room, now is buf; what stands from `at` on is left
pub record Writing (text b left buf : List ℕ) (at : ℕ) : Type 0 where
  pub room : length text ≤ length b
  pub long : length buf ≡ length b
  pub sum : at + length left ≡ length text
  pub whole : fill text b ≡ fill_at at left buf

pub writing_begins : (text b : List ℕ) → length text ≤ length b → Writing text b text b 0
writing_begins text b h = record { room = h; long = refl; sum = omega arith; whole = sym (fill_at-zero text b) }

pub writing-ends : {text b left buf : List ℕ} {at : ℕ} → Writing text b left buf at → left ≡ []
    → (at ≡ length text) × (buf ≡ fill text b)
writing-ends {text} {b} {left} {buf} {at} s e =
    (omega (arith, s.sum, ap length e), sym (s.whole ∙ ap (λ (l : List ℕ). fill_at at l buf) e ∙ fill_at-none at buf))

-- what is left is written last
module _ {text b left buf : List ℕ} {at : ℕ} (s : Writing text b left buf at) where
  pub writing-from : at ≤ length buf
  writing-from = omega (arith, s.room, s.long, s.sum)

  last_fits : at + length left ≤ length buf
  last_fits = omega (arith, s.room, s.long, s.sum)

  pub last-room : length left ≤ length (take (length buf - at) (drop at buf))
  last-room = part_room at left buf last_fits

  pub last_sum : at + length left ≤ length b
  last_sum = omega (arith, last_fits, s.long)

  module _ (ys : List ℕ) (filled : ys ≡ fill left (take (length buf - at) (drop at buf))) where
    pub last-length : length (put_mid at (length buf - at) buf ys) ≡ length b
    last-length = ap length (part_filled at left buf ys filled) ∙ fill_at-length at left buf last_fits ∙ s.long

    pub last-part : (k : ℕ) → k ≡ length left → (at + k ≡ length text) × (put_mid at (length buf - at) buf ys ≡ fill text b)
    last-part k e = (omega (arith, s.sum), part_filled at left buf ys filled ∙ sym s.whole)

-- w stands next in what is left
module _ {text b left buf : List ℕ} {at : ℕ} (s : Writing text b left buf at) (w rest : List ℕ) (next : left ≡ w ++ rest) where
  fits : at + length w ≤ length buf
  fits = omega (arith, s.room, s.long, s.sum, ap length next, length-append w rest)

  -- there is room for it in the part from `at` on
  pub writing-room : length w ≤ length (take (length buf - at) (drop at buf))
  writing-room = part_room at w buf fits

  pub writing-sum : at + length w ≤ length b
  writing-sum = omega (arith, fits, s.long)

  -- a callee filled that part with it
  pub writing-part : (k : ℕ) (ys : List ℕ) → k ≡ length w → ys ≡ fill w (take (length buf - at) (drop at buf))
      → Writing text b rest (put_mid at (length buf - at) buf ys) (at + k)
  writing-part k ys long filled =
      let e = part_filled at w buf ys filled in
      record {
        room = s.room;
        long = ap length e ∙ fill_at-length at w buf fits ∙ s.long;
        sum = omega (arith, s.sum, ap length next, length-append w rest);
        whole = s.whole ∙ sym (rw (e, next, long) (fill_at-then at w rest buf fits));
      }

-- a callee filled the whole buffer with the first piece
module _ (text b w rest : List ℕ) (room : length text ≤ length b) (next : text ≡ w ++ rest) where
  pub first-room : length w ≤ length b
  first-room = omega (arith, ap length next, length-append w rest)

  pub writing-first : (k : ℕ) (b₁ : List ℕ) → k ≡ length w → b₁ ≡ fill w b → Writing text b rest b₁ k
  writing-first k b₁ long e =
      record {
        room = room;
        long = ap length e ∙ fill-length w b first-room;
        sum = omega (arith, ap length next, length-append w rest);
        whole = sym (rw (e, next, long) (fill-then w rest b first-room));
      }

-- a byte behind a text
pub fill-byte : (w b b₁ : List ℕ) (k x : ℕ) → k ≡ length w → b₁ ≡ fill w b → length w < length b → set b₁ k x ≡ fill (w ++ x ∷ []) b
fill-byte w b b₁ k x long e h =
    let l : length b₁ ≡ length b = ap length e ∙ fill-length w b (omega arith) in
    sym (fill_at-none (k + 1) (set b₁ k x))
    ∙ fill_at-set k x [] b₁ (omega arith)
    ∙ rw (e, long) (fill-then w (x ∷ []) b (omega arith))
