-- A list written and read back is the same list; a field read and written back is the same field. (For numbers this is
-- `value-spell`, `number-spell` and `spell-value` of SpellLaws; for parts `split-join` and `join-split` of SplitLaws.)
-- Assumes nothing.
use Prim.Native.Nat.{ℕ, suc, ◌≤◌, ◌<◌}
use native.Mathlib.Nat.{not-suc-le-zero}
use native.Mathlib.Omega.{arith}
use mathlib.Core.Path.{◌≡◌, refl, sym, ap, ap₂, ◌∙◌}
use mathlib.Core.Bool.{true, false, false≢true}
use mathlib.Core.List.{List, [], ◌∷◌, map}
use lib.ListN.{length}
use borrow.Author.Tests.{le-leb, lt-ltb}
use Rattle.std.specs.Prelude.{Ok}
use Rattle.layout.specs.Split.{split, join}
use Rattle.layout.specs.Word.{same, dash}
use Rattle.layout.specs.Number.{is_number, starts_well, all_digits, is_digit, value, spell}
use Rattle.layout.specs.List.{items_of, all_numbers, all_below, judged, list_of, numbers_of, list_text}
use Rattle.layout.proofs.Cases.{by_bool, and_left, and_right}
use Rattle.layout.proofs.SplitLaws.{split-join, join-split, split-some, split-clean, without}
use Rattle.layout.proofs.WordLaws.{same_true, same_false, same_refl}
use Rattle.layout.proofs.NumberLaws.{digit_low}
use Rattle.layout.proofs.SpellLaws.{number-spell, value-spell, spell-value}
use Rattle.layout.proofs.ListLaws.{is-list}
use Rattle.layout.proofs.ListTextLaws.{spells-without}

-- ---- the items of a list's text are the spellings of its numbers
spells-split : (x : ℕ) (xs : List ℕ) → split 44 (list_text (x ∷ xs)) ≡ map spell (x ∷ xs)
unfolding list_text
spells-split x xs = split-join 44 (spell x) (map spell xs) (spells-without 44 (digit_low 44 (omega arith)) (x ∷ xs))

dash-no-number : is_number dash ≡ false
unfolding is_number starts_well all_digits is_digit
dash-no-number = refl

dash-split : split 44 dash ≡ dash ∷ []
unfolding without
dash-split = split-clean 44 dash refl

first : List (List ℕ) → List ℕ
first [] = []
first (p ∷ ps) = p

-- a list that is not empty is not `-`
list-not-dash : (x : ℕ) (xs : List ℕ) → same (list_text (x ∷ xs)) dash ≡ false
unfolding first
list-not-dash x xs =
    same_false (list_text (x ∷ xs)) dash
    (λ e.
    false≢true
    (sym dash-no-number
    ∙ ap (λ (l : List (List ℕ)). is_number (first l)) (sym dash-split ∙ ap (split 44) (sym e) ∙ spells-split x xs)
    ∙ number-spell x))

items-none : items_of (list_text []) ≡ []
unfolding items_of list_text
items-none = rw (same_refl dash)

pub items-text : (xs : List ℕ) → items_of (list_text xs) ≡ map spell xs
unfolding items_of
items-text [] = items-none
items-text (x ∷ xs) = rw (list-not-dash x xs) (spells-split x xs)

-- ---- written and read back
values-spells : (xs : List ℕ) → map value (map spell xs) ≡ xs
values-spells [] = refl
values-spells (x ∷ xs) = ap₂ {C = List ℕ} ◌∷◌ (value-spell x) (values-spells xs)

pub spells-numbers : (xs : List ℕ) → all_numbers (map spell xs) ≡ true
unfolding all_numbers
spells-numbers [] = refl
spells-numbers (x ∷ xs) = rw (number-spell x) (spells-numbers xs)

-- every number of a list is below the bound
unfoldable pub Below : ℕ → List ℕ → Type 0
Below bound [] = Unit {0}
Below bound (x ∷ xs) = (x < bound) × Below bound xs

spells-below : (bound : ℕ) (xs : List ℕ) → Below bound xs → all_below bound (map spell xs) ≡ true
unfolding all_below Below
spells-below bound [] h = refl
spells-below bound (x ∷ xs) h = rw (value-spell x, lt-ltb x bound h.0) (spells-below bound xs h.1)

length-spells : (xs : List ℕ) → length (map spell xs) ≡ length xs
length-spells [] = refl
length-spells (x ∷ xs) = ap suc (length-spells xs)

-- the text of a list is read as that list
pub read-written : (bound max : ℕ) (xs : List ℕ) → length xs ≤ max → Below bound xs
    → list_of bound max (list_text xs) ≡ Ok (length xs)
unfolding list_of judged
read-written bound max xs h b =
    rw (items-text xs, spells-numbers xs, spells-below bound xs b, length-spells xs, le-leb (length xs) max h)

pub numbers-written : (xs : List ℕ) → numbers_of (list_text xs) ≡ xs
unfolding numbers_of
numbers-written xs = ap (map value) (items-text xs) ∙ values-spells xs

-- ---- read and written back
numbers-spells : (ps : List (List ℕ)) → all_numbers ps ≡ true → map spell (map value ps) ≡ ps
unfolding all_numbers
numbers-spells [] e = refl
numbers-spells (p ∷ ps) e =
    ap₂ {C = List (List ℕ)} ◌∷◌ (spell-value p (and_left (is_number p) (all_numbers ps) e))
    (numbers-spells ps (and_right (is_number p) (all_numbers ps) e))

items-written : (ps : List (List ℕ)) → 0 < length ps → all_numbers ps ≡ true → list_text (map value ps) ≡ join 44 ps
unfolding list_text
items-written [] h e = absurd (not-suc-le-zero h)
items-written (p ∷ ps) h e = ap (join 44) (numbers-spells (p ∷ ps) e)

text-none : list_text [] ≡ dash
unfolding list_text
text-none = refl

-- the text of the list that a field is, is the field
pub written_read : (bound max n : ℕ) (f : List ℕ) → list_of bound max f ≡ Ok n → list_text (numbers_of f) ≡ f
unfolding numbers_of items_of
written_read bound max n f q =
    let i = is-list bound max n f q in
    by_bool (same f dash)
    (λ d. rw d (text-none ∙ sym (same_true f dash d)))
    (λ d. rw d (items-written (split 44 f) (split-some 44 f) (rw d at i.numbers) ∙ join-split 44 f))
