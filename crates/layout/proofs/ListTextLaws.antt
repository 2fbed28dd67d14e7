-- Laws of a list's text. Assumes nothing.
use Prim.Native.Nat.{ℕ, suc, ◌+◌, ◌-◌, ◌≤◌, ◌<◌}
use native.Mathlib.Numerals.{add-one}
use native.Mathlib.Omega.{arith}
use mathlib.Core.Path.{◌≡◌, refl, sym, ap, ◌∙◌}
use mathlib.Core.Bool.{true, false}
use mathlib.Core.List.{List, [], ◌∷◌, ◌++◌, map, append_assoc, append-nil}
use lib.ListN.{length, get_or, take, drop, length-append, length-map, drop_of_length-le}
use Rattle.std.proofs.lemmas.List.{get_or-map, drop-map}
use lib.Seq.{drop-cons}
use borrow.Author.Tests.{ne_eqb}
use Rattle.layout.specs.Split.{join}
use Rattle.layout.specs.Word.{dash}
use Rattle.layout.specs.Number.{is_digit, spell}
use Rattle.layout.specs.List.{list_text}
use Rattle.layout.specs.Fill.{fill}
use Rattle.layout.specs.Steps.List.{tail_text}
use Rattle.layout.proofs.FillLaws.{Writing, writing-first, tail-part}
use Rattle.layout.proofs.SplitLaws.{without, all_without, join-without}
use Rattle.layout.proofs.SpellLaws.{spell-without}

-- ---- bytes that a list's text does not hold
pub dash-without : (b : ℕ) → (b ≡ 45 → ⊥) → without b dash ≡ true
unfolding without
dash-without b h = rw (ne_eqb 45 b (λ q. h (sym q)))

pub spells-without : (b : ℕ) → is_digit b ≡ false → (xs : List ℕ) → all_without b (map spell xs) ≡ true
unfolding all_without
spells-without b h [] = refl
spells-without b h (x ∷ xs) = rw (spell-without b x h) (spells-without b h xs)

pub list-without : (b : ℕ) → is_digit b ≡ false → (b ≡ 44 → ⊥) → (b ≡ 45 → ⊥) → (xs : List ℕ) → without b (list_text xs) ≡ true
unfolding list_text
list-without b d c m [] = dash-without b m
list-without b d c m (x ∷ xs) = join-without b 44 c (map spell (x ∷ xs)) (spells-without b d (x ∷ xs))

-- ---- a list's text, number by number
pub list-none : list_text [] ≡ dash
unfolding list_text
list-none = refl

join-tail : (x : ℕ) (xs : List ℕ) → join 44 (map spell (x ∷ xs)) ≡ spell x ++ tail_text xs
unfolding tail_text join
join-tail x [] = sym (append-nil (spell x))
join-tail x (y ∷ xs) = ap (λ (l : List ℕ). spell x ++ 44 ∷ l) (join-tail y xs)

-- the first number, and the others with their commas
pub list-some : (x : ℕ) (xs : List ℕ) → list_text (x ∷ xs) ≡ spell x ++ tail_text xs
unfolding list_text
list-some x xs = join-tail x xs

tail_none : tail_text [] ≡ []
unfolding tail_text
tail_none = refl

tail-some : (x : ℕ) (xs : List ℕ) → tail_text (x ∷ xs) ≡ (44 ∷ spell x) ++ tail_text xs
unfolding tail_text
tail-some x xs = refl

-- one number more
pub tail_more : (xs : List ℕ) (v : ℕ) → tail_text (xs ++ v ∷ []) ≡ tail_text xs ++ 44 ∷ spell v
unfolding tail_text
tail_more [] v = ap (λ (l : List ℕ). 44 ∷ l) (append-nil (spell v))
tail_more (x ∷ xs) v =
    ap (λ (l : List ℕ). 44 ∷ (spell x ++ l)) (tail_more xs v)
    ∙ ap (λ (l : List ℕ). 44 ∷ l) (sym (append_assoc (spell x) (tail_text xs) (44 ∷ spell v)))

-- ---- a loop over the items, at the place i
module _ (items : List ℕ) (i : ℕ) (h : i < length items) where
  pub tail_at : tail_text (drop i items) ≡ (44 ∷ spell (get_or items i 0)) ++ tail_text (drop (i + 1) items)
  tail_at = rw (add-one, drop-cons items i 0 h) (tail-some (get_or items i 0) (drop (suc i) items))

  pub tail-long : length (tail_text (drop i items)) ≡ length (spell (get_or items i 0)) + 1 + length (tail_text (drop (i + 1) items))
  tail-long = omega (arith, ap length tail_at, length-append (spell (get_or items i 0)) (tail_text (drop (i + 1) items)))

pub tail-end : (items : List ℕ) (i : ℕ) → length items ≤ i → tail_text (drop i items) ≡ []
tail-end items i h = ap tail_text (drop_of_length-le items h) ∙ tail_none

-- ---- the same of items, whose numbers are written: n is that of the item d at the place i
module _ {T : Type 0} (number : T → ℕ) (items : List T) (i : ℕ) (h : i < length items) (d : T) (is : d ≡ get_or items i d) (n : ℕ) (e : n ≡ number d) where
  inside : i < length (map number items)
  inside = omega (arith, h, length-map items number)

  numbered : get_or (map number items) i 0 ≡ n
  numbered = get_or-map number items i d 0 h ∙ sym (e ∙ ap number is)

  pub item_at : tail_text (drop i (map number items)) ≡ (44 ∷ spell n) ++ tail_text (drop (i + 1) (map number items))
  item_at = rw numbered at (tail_at (map number items) i inside)

  pub item-long : length (tail_text (drop i (map number items))) ≡ length (spell n) + 1 + length (tail_text (drop (i + 1) (map number items)))
  item-long = rw numbered at (tail-long (map number items) i inside)

pub items-end : {T : Type 0} (number : T → ℕ) (items : List T) (i : ℕ) → length items ≤ i → tail_text (drop i (map number items)) ≡ []
items-end number items i h = tail-end (map number items) i (omega (arith, h, length-map items number))

-- ---- the whole list
pub list-empty : (items : List ℕ) → length items ≡ 0 → list_text items ≡ dash
list-empty [] h = list-none
list-empty (x ∷ items) h = absurd (omega arith)

module _ (items : List ℕ) (h : 0 < length items) where
  pub list_at : list_text items ≡ spell (get_or items 0 0) ++ tail_text (drop 1 items)
  list_at = ap list_text (drop-cons items 0 0 h) ∙ list-some (get_or items 0 0) (drop 1 items)

  pub list-long : length (list_text items) ≡ length (spell (get_or items 0 0)) + length (tail_text (drop 1 items))
  list-long = ap length list_at ∙ length-append (spell (get_or items 0 0)) (tail_text (drop 1 items))

  pub tail-list : tail_text items ≡ 44 ∷ list_text items
  tail-list =
      ap tail_text (drop-cons items 0 0 h)
      ∙ tail-some (get_or items 0 0) (drop 1 items)
      ∙ ap (λ (l : List ℕ). 44 ∷ l) (sym list_at)

-- ---- the whole list of items, whose numbers are written: n is that of the first one
pub items-empty : {T : Type 0} (number : T → ℕ) (items : List T) → length items ≡ 0 → list_text (map number items) ≡ dash
items-empty number items h = list-empty (map number items) (length-map items number ∙ h)

pub items-rest : {T : Type 0} (number : T → ℕ) (items : List T) → map number (take (length items - 1) (drop 1 items)) ≡ drop 1 (map number items)
items-rest number items = rw (tail-part items 1) (sym (drop-map number 1 items))

module _ {T : Type 0} (number : T → ℕ) (items : List T) (h : 0 < length items) (d : T) (is : d ≡ get_or items 0 d) (n : ℕ) (e : n ≡ number d) where
  pub items_at : list_text (map number items) ≡ spell n ++ tail_text (drop 1 (map number items))
  items_at = rw (numbered number items 0 h d is n e) at (list_at (map number items) (inside number items 0 h d is n e))

  -- once the first number is written, the others are left
  pub items_begun : (b : List ℕ) → length (list_text (map number items)) ≤ length b → (k : ℕ) (b₁ : List ℕ) → k ≡ length (spell n)
      → b₁ ≡ fill (spell n) b → Writing (list_text (map number items)) b (tail_text (drop 1 (map number items))) b₁ k
  items_begun b room k b₁ = writing-first (list_text (map number items)) b (spell n) (tail_text (drop 1 (map number items))) room items_at k b₁
