-- Laws of lists as they are read. Assumes nothing.
use Prim.Native.Nat.{ℕ, zero, suc, ◌+◌, ◌-◌, ◌≤◌, ◌<◌, zero-le}
use native.Mathlib.Nat.{add-zero, zero-add, not-suc-le-zero, le_of_suc-le-suc}
use native.Mathlib.Omega.{arith}
use mathlib.Core.Path.{◌≡◌, refl, sym, ap, ◌∙◌}
use mathlib.Core.Bool.{true, false, cond}
use mathlib.Core.List.{List, [], ◌∷◌, map}
use native.Mathlib.Numerals.{add-one}
use lib.ListN.{length, get_or, take, drop, set, length-set, length-map, drop_of_length-le}
use lib.Seq.{drop-cons}
use lib.Dec.{leb, ltb}
use borrow.Author.Tests.{le-leb, lt-leb, lt-ltb, le-ltb, leb-true, ltb-true}
use Rattle.std.specs.Prelude.{Result, Ok, Err}
use Rattle.std.specs.Array.{list_steps}
use Rattle.std.proofs.lemmas.Iterator.{YieldsList}
use Rattle.std.proofs.lemmas.Iterator.Consumers.{YieldsList-from_shown}
use Rattle.layout.specs.declared.number.NumberFault.TheVariants as number
use Rattle.layout.specs.declared.list.ListFault.{ListFault}
use Rattle.layout.specs.declared.list.ListFault.TheVariants.{NotList, Over, Many}
use Rattle.layout.specs.Split.{find, split}
use Rattle.layout.specs.Word.{same, dash}
use Rattle.layout.specs.Number.{is_number, value, number_of}
use Rattle.layout.specs.Fill.{fill}
use Rattle.layout.specs.List.{items_of, all_numbers, all_below, judged, list_of, numbers_of, leading}
use Rattle.layout.specs.Steps.List.{joined, held, pushed, kept, answer_from, places_from}
use Rattle.layout.specs.Steps.Fill.{fill_at}
use Rattle.layout.proofs.Cases.{by_bool, by-lt, and_left, and_right}
use Rattle.layout.proofs.SplitLaws.{part-here}
use Rattle.layout.proofs.NumberLaws.{number-not, number-over, number-value}
use Rattle.layout.proofs.FillLaws.{fill_at-set, fill_at-none, fill_at-zero}

-- ---- one item more
-- what an item is as a number below the bound
module _ (bound : ℕ) (p : List ℕ) where
  by_number : {C : Type 0} → (is_number p ≡ false → number_of bound p ≡ Err number.NotNumber → C)
      → (is_number p ≡ true → ltb (value p) bound ≡ false → number_of bound p ≡ Err number.Over → C)
      → (is_number p ≡ true → ltb (value p) bound ≡ true → number_of bound p ≡ Ok (value p) → C)
      → C
  by_number f g h =
      by_bool (is_number p)
      (λ e. by-lt (value p) bound
      (λ l. h e (lt-ltb (value p) bound l) (number-value bound p e l))
      (λ l. g e (le-ltb (value p) bound l) (number-over bound p e l)))
      (λ e. f e (number-not bound p e))

  module _ (max : ℕ) where
    -- a fault stays one
    stays : (f : ListFault) → (g : ListFault) × (pushed bound max (Err f) p ≡ Err g)
    unfolding pushed joined
    stays NotList = (NotList, refl)
    stays Over =
        by_number (λ e q. (NotList, rw q)) (λ e l q. (Over, rw q)) (λ e l q. (Over, rw q))
    stays Many =
        by_number (λ e q. (NotList, rw q)) (λ e l q. (Over, rw q)) (λ e l q. (Many, rw q))

-- ---- the answer, an item at a time, is the answer for the items
module _ (bound max : ℕ) where
  answer-not : (ps : List (List ℕ)) → answer_from bound max (Err NotList) ps ≡ Err NotList
  unfolding answer_from pushed joined
  answer-not [] = refl
  answer-not (p ∷ ps) = answer-not ps

  answer-over : (ps : List (List ℕ)) → answer_from bound max (Err Over) ps ≡ cond (all_numbers ps) (Err Over) (Err NotList)
  unfolding answer_from pushed joined all_numbers
  answer-over [] = refl
  answer-over (p ∷ ps) =
      let ih = answer-over ps in
      by_number bound p
      (λ e q. rw (q, e) (answer-not ps))
      (λ e l q. rw (q, e) ih)
      (λ e l q. rw (q, e) ih)

  answer-many : (ps : List (List ℕ))
      → answer_from bound max (Err Many) ps ≡ cond (all_numbers ps) (cond (all_below bound ps) (Err Many) (Err Over)) (Err NotList)
  unfolding answer_from pushed joined all_numbers all_below
  answer-many [] = refl
  answer-many (p ∷ ps) =
      let ih = answer-many ps in
      by_number bound p
      (λ e q. rw (q, e) (answer-not ps))
      (λ e l q. rw (q, e, l) (answer-over ps))
      (λ e l q. rw (q, e, l) ih)

  answer-listed : (n : ℕ) (ps : List (List ℕ)) → n ≤ max
      → answer_from bound max (Ok n) ps
      ≡ cond (all_numbers ps)
      (cond (all_below bound ps) (cond (leb (n + length ps) max) (Ok (n + length ps)) (Err Many)) (Err Over)) (Err NotList)
  unfolding answer_from pushed joined all_numbers all_below
  answer-listed n [] h = rw (add-zero, le-leb n max h)
  answer-listed n (p ∷ ps) h =
      let m : n + 1 + length ps ≡ n + suc (length ps) = omega arith in
      by_number bound p
      (λ e q. rw (q, e) (answer-not ps))
      (λ e l q. rw (q, e, l) (answer-over ps))
      (λ e l q.
      by-lt n max
      (λ k. rw (q, e, l, lt-ltb n max k)
      (answer-listed (n + 1) ps (omega arith)
      ∙ ap (λ (j : ℕ). cond (all_numbers ps) (cond (all_below bound ps) (cond (leb j max) (Ok j) (Err Many)) (Err Over)) (Err NotList)) m))
      (λ k. rw (q, e, l, le-ltb n max k, lt-leb (n + suc (length ps)) max (omega arith)) (answer-many ps)))

  pub answer-is : (ps : List (List ℕ)) → answer_from bound max (Ok 0) ps ≡ judged bound max ps
  unfolding judged
  answer-is ps = answer-listed 0 ps zero-le ∙ rw (zero-add (length ps))

  -- ---- the places, an item at a time, hold the leading numbers
  places-still : (f : ListFault) (ps : List (List ℕ)) (xs : List ℕ) → places_from bound max (Err f) ps xs ≡ xs
  unfolding places_from kept held
  places-still f [] xs = refl
  places-still f (p ∷ ps) xs = let t = stays bound p max f in rw (t.1) (places-still (t.0) ps xs)

  places-listed : (n k : ℕ) (ps : List (List ℕ)) (xs : List ℕ) → n + k ≡ max → length xs ≡ max
      → places_from bound max (Ok n) ps xs ≡ fill_at n (leading bound k ps) xs
  unfolding places_from pushed joined kept held leading
  places-listed n zero [] xs q h = sym (fill_at-none n xs)
  places-listed n (suc k) [] xs q h = sym (fill_at-none n xs)
  places-listed n zero (p ∷ ps) xs q h =
      by_number bound p
      (λ e t. rw t (places-still NotList ps xs ∙ sym (fill_at-none n xs)))
      (λ e l t. rw t (places-still Over ps xs ∙ sym (fill_at-none n xs)))
      (λ e l t. rw (t, le-ltb n max (omega arith), le-ltb n (length xs) (omega arith)) (places-still Many ps xs ∙ sym (fill_at-none n xs)))
  places-listed n (suc k) (p ∷ ps) xs q h =
      by_number bound p
      (λ e t. rw (t, e) (places-still NotList ps xs ∙ sym (fill_at-none n xs)))
      (λ e l t. rw (t, e, l) (places-still Over ps xs ∙ sym (fill_at-none n xs)))
      (λ e l t. rw (t, e, l, lt-ltb n max (omega arith), lt-ltb n (length xs) (omega arith))
      (places-listed (n + 1) k ps (set xs n (value p)) (omega arith) (simp length-set h)
      ∙ fill_at-set n (value p) (leading bound k ps) xs (omega arith)))

  pub places-are : (ps : List (List ℕ)) (xs : List ℕ) → length xs ≡ max
      → places_from bound max (Ok 0) ps xs ≡ fill (leading bound max ps) xs
  places-are ps xs h = places-listed 0 max ps xs (zero-add max) h ∙ fill_at-zero (leading bound max ps) xs

  -- no item changes the answer or the places once one was no number
  pub nothing-more : (r : Result ℕ ListFault) → r ≡ Err NotList → (ps : List (List ℕ)) (xs : List ℕ)
      → (answer_from bound max r ps ≡ r) × (places_from bound max r ps xs ≡ xs)
  nothing-more r is ps xs = rw is (answer-not ps, places-still NotList ps xs)

pub no-list : (r : Result ℕ ListFault) (f : ListFault) → r ≡ Err f → f ≡ NotList → r ≡ Err NotList
no-list r f is e = is ∙ ap Err e

-- ---- the loop that reads items, which has read n of them
-- a turn: p is the next one, and its answer q and the places ys are taken up
module _ (bound max : ℕ) (r : Result ℕ ListFault) (xs : List ℕ) (fs : List (List ℕ)) (n : ℕ) where
  pub turn-more : (p : List ℕ) → n < length fs → p ≡ get_or fs n p → length xs ≡ max
      → (q : Result ℕ ListFault) → q ≡ pushed bound (length xs) r p → (ys : List ℕ) → ys ≡ kept bound r p xs
      → (answer_from bound max r (drop n fs) ≡ answer_from bound max q (drop (n + 1) fs))
      × (places_from bound max r (drop n fs) xs ≡ places_from bound max q (drop (n + 1) fs) ys)
  unfolding answer_from places_from
  turn-more p l e h q read ys held = rw (add-one, drop-cons fs n p l, ← e, read, held, h) (refl, refl)

  -- the end: none is left
  pub turn_end : n ≡ length fs → (answer_from bound max r (drop n fs) ≡ r) × (places_from bound max r (drop n fs) xs ≡ xs)
  unfolding answer_from places_from
  turn_end e = rw (drop_of_length-le fs {i = n} (omega arith)) (refl, refl)

pub leading_empty : (bound max : ℕ) → leading bound max [] ≡ []
unfolding leading
leading_empty bound zero = refl
leading_empty bound (suc max) = refl

-- ---- an array whose elements are taken one after the other
pub yields_items : (xs : List ℕ) → YieldsList list_steps (λ (x : ℕ). x) xs xs
yields_items xs = YieldsList-from_shown list_steps (λ (x : ℕ). x) (λ (s : List ℕ). s) (λ s t e. ap length e) (λ s x t e. e) xs

-- ---- the item at a place: the first of what is left of a field from there on
abbrev pub item_at : List ℕ → ℕ → List ℕ
item_at s a = take (find 44 (drop a s)) (drop a s)

-- it is what `split` gives first
pub item-first : (s : List ℕ) (a : ℕ) → a ≤ length s → get_or (split 44 (drop a s)) 0 [] ≡ item_at s a
item-first s a h =
    let k : a + find 44 (drop a s) - a ≡ find 44 (drop a s) = omega arith in
    part-here 44 s a (a + find 44 (drop a s)) refl h ∙ ap (λ (n : ℕ). take n (drop a s)) k

-- ---- a field as a list
pub list-none : (bound max : ℕ) (f : List ℕ) → same f dash ≡ true → list_of bound max f ≡ Ok 0
unfolding list_of items_of judged all_numbers all_below
list-none bound max f e = rw (e, le-leb 0 max zero-le)

-- what a field is that is a list of n numbers
pub record IsList (bound max n : ℕ) (f : List ℕ) : Type 0 where
  pub numbers : all_numbers (items_of f) ≡ true
  pub small : all_below bound (items_of f) ≡ true
  pub count : length (items_of f) ≡ n
  pub few : n ≤ max

pub is-list : (bound max n : ℕ) (f : List ℕ) → list_of bound max f ≡ Ok n → IsList bound max n f
unfolding list_of judged
is-list bound max n f q =
    let ps = items_of f in
    by_bool (all_numbers ps)
    (λ a. by_bool (all_below bound ps)
    (λ b. by_bool (leb (length ps) max)
    (λ l.
    let t : Ok (length ps) ≡ Ok n = rw (a, b, l) at q in
    let k : length ps ≡ n = cc in
    record { numbers = a; small = b; count = k; few = omega (arith, leb-true (length ps) max l) })
    (λ l. let t : Err Many ≡ Ok n = rw (a, b, l) at q in absurd (cc)))
    (λ b. let t : Err Over ≡ Ok n = rw (a, b) at q in absurd (cc)))
    (λ a. let t : Err NotList ≡ Ok n = rw a at q in absurd (cc))

-- the leading numbers of a list are all its numbers
leading-all : (bound max : ℕ) (ps : List (List ℕ)) → all_numbers ps ≡ true → all_below bound ps ≡ true → length ps ≤ max
    → leading bound max ps ≡ map value ps
unfolding leading all_numbers all_below
leading-all bound zero [] a b l = refl
leading-all bound (suc max) [] a b l = refl
leading-all bound zero (p ∷ ps) a b l = absurd (not-suc-le-zero l)
leading-all bound (suc max) (p ∷ ps) a b l =
    rw (and_left (is_number p) (all_numbers ps) a, and_left (ltb (value p) bound) (all_below bound ps) b)
    (ap (λ (q : List ℕ). value p ∷ q)
    (leading-all bound max ps (and_right (is_number p) (all_numbers ps) a) (and_right (ltb (value p) bound) (all_below bound ps) b)
    (le_of_suc-le-suc l)))

pub leading-numbers : (bound max n : ℕ) (f : List ℕ) → IsList bound max n f → leading bound max (items_of f) ≡ numbers_of f
unfolding numbers_of
leading-numbers bound max n f i = leading-all bound max (items_of f) i.numbers i.small (omega (arith, i.count, i.few))

-- what a field is that is no such list
module _ (bound max : ℕ) (f : List ℕ) where
  pub list-not : list_of bound max f ≡ Err NotList → all_numbers (items_of f) ≡ false
  unfolding list_of judged
  list-not q =
      let ps = items_of f in
      by_bool (all_numbers ps)
      (λ a. by_bool (all_below bound ps)
      (λ b. by_bool (leb (length ps) max)
      (λ l. let t : Ok (length ps) ≡ Err NotList = rw (a, b, l) at q in absurd (cc))
      (λ l. let t : Err Many ≡ Err NotList = rw (a, b, l) at q in absurd (cc)))
      (λ b. let t : Err Over ≡ Err NotList = rw (a, b) at q in absurd (cc)))
      (λ a. a)

  pub list_over : list_of bound max f ≡ Err Over → (all_numbers (items_of f) ≡ true) × (all_below bound (items_of f) ≡ false)
  unfolding list_of judged
  list_over q =
      let ps = items_of f in
      by_bool (all_numbers ps)
      (λ a. by_bool (all_below bound ps)
      (λ b. by_bool (leb (length ps) max)
      (λ l. let t : Ok (length ps) ≡ Err Over = rw (a, b, l) at q in absurd (cc))
      (λ l. let t : Err Many ≡ Err Over = rw (a, b, l) at q in absurd (cc)))
      (λ b. (a, b)))
      (λ a. let t : Err NotList ≡ Err Over = rw a at q in absurd (cc))

  pub list-many : list_of bound max f ≡ Err Many
      → (all_numbers (items_of f) ≡ true) × (all_below bound (items_of f) ≡ true) × (leb (length (items_of f)) max ≡ false)
  unfolding list_of judged
  list-many q =
      let ps = items_of f in
      by_bool (all_numbers ps)
      (λ a. by_bool (all_below bound ps)
      (λ b. by_bool (leb (length ps) max)
      (λ l. let t : Ok (length ps) ≡ Err Many = rw (a, b, l) at q in absurd (cc))
      (λ l. (a, b, l)))
      (λ b. let t : Err Over ≡ Err Many = rw (a, b) at q in absurd (cc)))
      (λ a. let t : Err NotList ≡ Err Many = rw a at q in absurd (cc))

-- ---- the numbers of a list
below_at : (bound : ℕ) (ps : List (List ℕ)) (i : ℕ) → all_below bound ps ≡ true → i < length ps → get_or (map value ps) i 0 < bound
unfolding all_below
below_at bound [] i b h = absurd (not-suc-le-zero h)
below_at bound (p ∷ ps) zero b h = ltb-true (value p) bound (and_left (ltb (value p) bound) (all_below bound ps) b)
below_at bound (p ∷ ps) (suc i) b h =
    below_at bound ps i (and_right (ltb (value p) bound) (all_below bound ps) b) (le_of_suc-le-suc h)

module _ {bound max n : ℕ} {f : List ℕ} (i : IsList bound max n f) where
  pub numbers-count : length (numbers_of f) ≡ n
  unfolding numbers_of
  numbers-count = length-map (items_of f) value ∙ i.count

  pub numbers-below : (k : ℕ) → k < n → get_or (numbers_of f) k 0 < bound
  unfolding numbers_of
  numbers-below k h = below_at bound (items_of f) k i.small (omega (arith, i.count))
