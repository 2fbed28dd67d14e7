-- Laws of a list in an array, whatever its elements are. Assumes nothing.
use Prim.Native.Nat.{ℕ, suc, ◌+◌, ◌-◌, ◌≤◌, ◌<◌}
use native.Mathlib.Nat.{sub-zero}
use native.Mathlib.Numerals.{add-one}
use native.Mathlib.Omega.{arith}
use mathlib.Core.Path.{◌≡◌, sym, ap, ◌∙◌}
use mathlib.Core.List.{List, [], ◌∷◌, ◌++◌, append_assoc}
use lib.ListN.{length, get_or, take, drop, set, replicate, length-set, length-append, length-replicate, get_or-append, get_or-eq_default}
use lib.Seq.{take-append_seam, set-append_seam, take-suc, take-suc-set, length-take-le, get_or-append-add}
use Rattle.std.proofs.lemmas.List.{get_or-replicate, drop-replicate, take-replicate, replicate-append-replicate}
use Rattle.layout.specs.Fill.{fill}
use Rattle.layout.proofs.Cases.{by-lt}
use Rattle.history.specs.Record.{pad}

-- each place of blanks is blank, and so is each behind them
pub get_or-blank : {A : Type 0} (blank : A) (n i : ℕ) → get_or (replicate n blank) i blank ≡ blank
get_or-blank blank n i =
    by-lt i n (get_or-replicate n i blank blank)
    (λ h. get_or-eq_default (replicate n blank) blank (omega (arith, h, length-replicate n blank)))

module _ {A : Type 0} (places : ℕ) (blank : A) where
  pub pad-none : pad places blank [] ≡ replicate places blank
  unfolding pad
  pad-none = ap (λ (k : ℕ). replicate k blank) (sub-zero places)

  module _ (xs : List A) where
    pub pad-length : length xs ≤ places → length (pad places blank xs) ≡ places
    unfolding pad
    pad-length h =
        omega (arith, length-append xs (replicate (places - length xs) blank), length-replicate (places - length xs) blank)

    pub take-pad : take (length xs) (pad places blank xs) ≡ xs
    unfolding pad
    take-pad = take-append_seam xs (replicate (places - length xs) blank)

    -- one element more, in the first blank place
    pub pad-set : (i : ℕ) (v : A) → i ≡ length xs → i < places → set (pad places blank xs) i v ≡ pad places blank (xs ++ v ∷ [])
    unfolding pad
    pad-set i v e h =
        let k : places - length xs ≡ suc (places - (length xs + 1)) = omega arith in
        let l : length (xs ++ v ∷ []) ≡ length xs + 1 = length-append xs (v ∷ []) in
        rw (e, l, k, set-append_seam xs blank (replicate (places - (length xs + 1)) blank) v, append_assoc)

    -- a place that is not used is blank
    pub get_or-pad : (i : ℕ) → get_or (pad places blank xs) i blank ≡ get_or xs i blank
    unfolding pad
    get_or-pad i =
        by-lt i (length xs)
        (λ h. get_or-append xs (replicate (places - length xs) blank) blank i h)
        (λ h.
        let j : i ≡ length xs + (i - length xs) = omega arith in
        ap (λ (n : ℕ). get_or (xs ++ replicate (places - length xs) blank) n blank) j
        ∙ get_or-append-add xs (replicate (places - length xs) blank) (i - length xs) blank
        ∙ get_or-blank blank (places - length xs) (i - length xs)
        ∙ sym (get_or-eq_default xs blank h))

-- ---- a list that was written over the first of so many zeros
pub pad_filled : (places : ℕ) (xs : List ℕ) → fill xs (replicate places 0) ≡ pad places 0 xs
unfolding fill pad
pad_filled places xs = rw (drop-replicate {X = ℕ} (length xs) places 0)

-- or over the first of some of them
pub pad_part : (places some : ℕ) (xs : List ℕ) → length xs ≤ some → some ≤ places
    → fill xs (take some (replicate places 0)) ++ drop some (replicate places 0) ≡ pad places 0 xs
unfolding fill pad
pad_part places some xs few room =
    let m : some - length xs + (places - some) ≡ places - length xs = omega arith in
    rw (
      take-replicate {X = ℕ} some places 0 room,
      drop-replicate {X = ℕ} (length xs) some 0,
      drop-replicate {X = ℕ} some places 0,
      append_assoc,
      replicate-append-replicate {A = ℕ} (some - length xs) (places - some) 0,
      m,
    )

-- each number there is below a bound, where those of the list are
pub pad_below : (places : ℕ) (xs : List ℕ) (bound : ℕ) → 0 < bound → ((i : ℕ) → i < length xs → get_or xs i 0 < bound)
    → (i : ℕ) → get_or (pad places 0 xs) i 0 < bound
pad_below places xs bound b h i =
    rw (get_or-pad places 0 xs i) (by-lt i (length xs) (h i) (λ k. rw (get_or-eq_default xs 0 k) b))

-- ---- a loop that fills an array: the first i elements are in it
pub take_more : {A : Type 0} (xs : List A) (i : ℕ) (d : A) → i < length xs → take (i + 1) xs ≡ take i xs ++ get_or xs i d ∷ []
take_more xs i d h = rw add-one (take-suc xs i d h)

-- ---- an array that is being filled: its first n places hold a list, and the others are blank
pub record Filled {A : Type 0} (places : ℕ) (blank : A) (xs : List A) (n : ℕ) : Type 0 where
  pub few : n ≤ places
  pub long : length xs ≡ places
  pub pads : xs ≡ pad places blank (take n xs)

pub filled_none : {A : Type 0} (places : ℕ) (blank : A) (xs : List A) → xs ≡ replicate places blank → Filled places blank xs 0
filled_none places blank xs e = record {
  few = omega arith;
  long = ap length e ∙ length-replicate places blank;
  pads = e ∙ sym (pad-none places blank);
}

module _ {A : Type 0} {places : ℕ} {blank : A} {xs : List A} {n : ℕ} (f : Filled places blank xs n) where
  pub filled-count : length (take n xs) ≡ n
  filled-count = length-take-le n xs (omega (arith, f.few, f.long))

  module _ (v : A) (h : n < places) where
    pub filled-take : take (n + 1) (set xs n v) ≡ take n xs ++ v ∷ []
    filled-take = rw add-one (take-suc-set xs n v (omega (arith, f.long)))

    pub filled_more : Filled places blank (set xs n v) (n + 1)
    filled_more = record {
      few = omega arith;
      long = length-set xs n v ∙ f.long;
      pads =
          ap (λ (l : List A). set l n v) f.pads
          ∙ pad-set places blank (take n xs) n v (sym filled-count) h
          ∙ ap (pad places blank) (sym filled-take);
    }
