-- Laws of a loop that reads numbers with commas between them into the places of an array. Assumes nothing.
use Prim.Native.Nat.{ℕ, ◌+◌, ◌<◌}
use native.Mathlib.Omega.{arith}
use mathlib.Core.Path.{◌≡◌, refl, sym, ap, ◌∙◌}
use mathlib.Core.Bool.{true}
use mathlib.Core.List.{List, [], ◌∷◌, ◌++◌, append_assoc}
use lib.ListN.{length, take, drop, set, replicate}
use lib.Dec.{ltb}
use borrow.Author.Tests.{lt-ltb}
use Rattle.layout.specs.Number.{spell}
use Rattle.layout.specs.List.{list_text}
use Rattle.layout.specs.Steps.List.{tail_text}
use Rattle.layout.proofs.Cases.{and_left, and_right}
use Rattle.layout.proofs.ListTextLaws.{tail-list, tail_more}
use Rattle.history.specs.Readable.{all_less}
use Rattle.history.proofs.PadLaws.{Filled, filled_none, filled-count, filled-take, filled_more}

less-more : (bound : ℕ) (xs : List ℕ) (v : ℕ) → all_less bound xs ≡ true → v < bound → all_less bound (xs ++ v ∷ []) ≡ true
unfolding all_less
less-more bound [] v e h = rw (lt-ltb v bound h)
less-more bound (x ∷ xs) v e h =
    rw (and_left (ltb x bound) (all_less bound xs) e) (less-more bound xs v (and_right (ltb x bound) (all_less bound xs) e) h)

-- the first k places hold the numbers that the text begins with, each below the bound and with its comma; the rest is left
pub record Listed (places bound : ℕ) (text xs : List ℕ) (k : ℕ) (rest : List ℕ) : Type 0 where
  pub filled : Filled places 0 xs k
  pub small : all_less bound (take k xs) ≡ true
  pub spelt : 44 ∷ text ≡ tail_text (take k xs) ++ 44 ∷ rest

pub listed_begins : (places bound : ℕ) (text xs : List ℕ) → xs ≡ replicate places 0 → Listed places bound text xs 0 text
unfolding all_less tail_text
listed_begins places bound text xs e = record { filled = filled_none places 0 xs e; small = refl; spelt = refl }

-- the rest begins with one number more
module _ {places bound : ℕ} {text xs : List ℕ} {k : ℕ} {rest : List ℕ} (r : Listed places bound text xs k rest) (room : k < places) (v : ℕ)
    (behind : List ℕ) (number : rest ≡ spell v ++ behind) (below : v < bound) where
  pub listed_numbers : take (k + 1) (set xs k v) ≡ take k xs ++ v ∷ []
  listed_numbers = filled-take r.filled v room

  pub listed-filled : Filled places 0 (set xs k v) (k + 1)
  listed-filled = filled_more r.filled v room

  pub listed-small : all_less bound (take (k + 1) (set xs k v)) ≡ true
  listed-small = rw listed_numbers (less-more bound (take k xs) v r.small below)

  more-spelt : 44 ∷ text ≡ tail_text (take (k + 1) (set xs k v)) ++ behind
  more-spelt =
      rw (listed_numbers, tail_more (take k xs) v)
      (r.spelt
      ∙ ap (λ (l : List ℕ). tail_text (take k xs) ++ 44 ∷ l) number
      ∙ sym (append_assoc (tail_text (take k xs)) (44 ∷ spell v) behind))

  -- a comma stands behind it
  pub listed-more : (more : List ℕ) → behind ≡ 44 ∷ more → Listed places bound text (set xs k v) (k + 1) more
  listed-more more c = record {
    filled = listed-filled;
    small = listed-small;
    spelt = more-spelt ∙ ap (λ (l : List ℕ). tail_text (take (k + 1) (set xs k v)) ++ l) c;
  }

  -- it is the last
  pub listed-count : length (take (k + 1) (set xs k v)) ≡ k + 1
  listed-count = filled-count listed-filled

  pub listed-ends : text ≡ list_text (take (k + 1) (set xs k v)) ++ behind
  listed-ends =
      let ys : List ℕ = take (k + 1) (set xs k v) in
      let t : 44 ∷ text ≡ 44 ∷ (list_text ys ++ behind) =
      more-spelt ∙ ap (λ (l : List ℕ). l ++ behind) (tail-list ys (omega (arith, listed-count))) in
      ap (drop 1) t
