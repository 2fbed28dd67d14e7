-- Laws of `find`, `split` and `join`. Assumes nothing.
use Prim.Native.Nat.{ℕ, zero, suc, ◌+◌, ◌-◌, ◌≤◌, ◌<◌, suc-le-suc, zero-le}
use Rattle.std.proofs.Common.{one-add}
use native.Mathlib.Nat.{le_of_suc-le-suc, not-suc-le-zero}
use native.Mathlib.Numerals.{add-one, sub-one}
use native.Mathlib.Omega.{arith}
use mathlib.Core.Path.{◌≡◌, refl, sym, ap, ◌∙◌}
use mathlib.Core.Bool.{Bool, true, false, cond, not, ◌&&◌}
use mathlib.Core.List.{List, [], ◌∷◌, ◌++◌}
use lib.ListN.{length, get_or, take, drop, length-append, length-drop, drop_of_length-le}
use lib.Seq.{drop-drop, take_all, length-take-le}
use lib.Dec.{eqb}
use borrow.Author.Tests.{eq-eqb, ne_eqb, not-true, lt-ltb, le-ltb}
use Rattle.std.specs.Prelude.{Option, Some, None, MatchOption}
use Rattle.std.specs.Option.{unwrap_or}
use Rattle.std.specs.List.{position, position_or_len, slice_split, onto_first}
use Rattle.layout.specs.Split.{find, on_first, split, join, part_start}
use Rattle.layout.proofs.FillLaws.{tail-part}
use Rattle.layout.proofs.Cases.{by_bool, by-eq, by-lt, and_left, and_right}

-- `find` is the library's word
pub find_is_position : (b : ℕ) (s : List ℕ) → find b s ≡ position_or_len (λ x. eqb x b) s
unfolding find
find_is_position b [] = refl
find_is_position b (x ∷ s) =
    let ih = find_is_position b s in
    by_bool (eqb x b) (λ e. rw e) (λ e. rw (e, ih) (sym (one-add (position_or_len (λ y. eqb y b) s))))

-- ---- the first part
find-le-by : (t : Bool) (n m : ℕ) → n ≤ m → cond t 0 (suc n) ≤ suc m
find-le-by true n m h = zero-le
find-le-by false n m h = suc-le-suc h

pub find-le : (b : ℕ) (s : List ℕ) → find b s ≤ length s
unfolding find
find-le b [] = zero-le
find-le b (x ∷ xs) = find-le-by (eqb x b) _ _ (find-le b xs)

-- the place that the library finds
pub place-found : (b : ℕ) (s : List ℕ) (r : Option ℕ) → r ≡ position (λ x. eqb x b) s
    → MatchOption r (find b s ≡ length s) (λ e. (e ≡ find b s) × (e < length s))
place-found b s r q =
    by-lt (find b s) (length s)
    (λ h. rw (q, ← find_is_position b s, lt-ltb (find b s) (length s) h) (refl, h))
    (λ h. rw (q, ← find_is_position b s, le-ltb (find b s) (length s) h) (omega (arith, find-le b s)))

pub place_or-length : (b : ℕ) (s : List ℕ) (r : Option ℕ) → MatchOption r (find b s ≡ length s) (λ e. (e ≡ find b s) × (e < length s))
    → unwrap_or r (length s) ≡ find b s
place_or-length b s None q = sym q
place_or-length b s (Some e) q = q.0

-- the first part, and the parts of the rest, where b occurs
split-more-by : (b x : ℕ) (xs : List ℕ) (t : Bool)
    → (find b xs < length xs → split b xs ≡ take (find b xs) xs ∷ split b (drop (suc (find b xs)) xs))
    → cond t 0 (suc (find b xs)) < suc (length xs)
    → cond t ([] ∷ split b xs) (on_first x (split b xs))
    ≡ take (cond t 0 (suc (find b xs))) (x ∷ xs) ∷ split b (drop (suc (cond t 0 (suc (find b xs)))) (x ∷ xs))
unfolding on_first
split-more-by b x xs true ih h = refl
split-more-by b x xs false ih h = ap (on_first x) (ih (le_of_suc-le-suc h))

pub split-more : (b : ℕ) (s : List ℕ) → find b s < length s
    → split b s ≡ take (find b s) s ∷ split b (drop (suc (find b s)) s)
unfolding find split
split-more b [] h = absurd (not-suc-le-zero h)
split-more b (x ∷ xs) h = split-more-by b x xs (eqb x b) (split-more b xs) h

-- the one part, where b does not occur
split-last-by : (b x : ℕ) (xs : List ℕ) (t : Bool)
    → (length xs ≤ find b xs → split b xs ≡ xs ∷ [])
    → suc (length xs) ≤ cond t 0 (suc (find b xs))
    → cond t ([] ∷ split b xs) (on_first x (split b xs)) ≡ (x ∷ xs) ∷ []
unfolding on_first
split-last-by b x xs true ih h = absurd (not-suc-le-zero h)
split-last-by b x xs false ih h = ap (on_first x) (ih (le_of_suc-le-suc h))

pub split-last : (b : ℕ) (s : List ℕ) → length s ≤ find b s → split b s ≡ s ∷ []
unfolding find split
split-last b [] h = refl
split-last b (x ∷ xs) h = split-last-by b x xs (eqb x b) (split-last b xs) h

-- the part before the first b, and what is behind it
pub cut_once : (b : ℕ) (s : List ℕ) (e : ℕ) → e ≡ find b s → e < length s
    → (find b s < length s) × (take e s ≡ take (find b s) s) × (take (length s - (e + 1)) (drop (e + 1) s) ≡ drop (find b s + 1) s)
    × (split b s ≡ take e s ∷ split b (take (length s - (e + 1)) (drop (e + 1) s)))
cut_once b s e q h =
    let t = tail-part s (e + 1) in
    let k : find b s < length s = omega arith in
    rw (t, q) (k, refl, refl, rw (add-one (find b s)) (split-more b s k))

-- ---- a loop over the parts, at the place a, whose part goes up to e
module _ (b : ℕ) (s : List ℕ) (a e : ℕ) (found : e ≡ a + find b (drop a s)) (ha : a ≤ length s) where
  cut-find : find b (drop a s) ≡ e - a
  cut-find = omega arith

  pub cut-more : e < length s → split b (drop a s) ≡ take (e - a) (drop a s) ∷ split b (drop (e + 1) s)
  cut-more h =
      split-more b (drop a s) (omega (arith, length-drop a s))
      ∙ let k : a + suc (e - a) ≡ e + 1 = omega arith in rw (cut-find, drop-drop (suc (e - a)) a s, k)

  pub cut-last : length s ≤ e → split b (drop a s) ≡ take (e - a) (drop a s) ∷ []
  cut-last h =
      split-last b (drop a s) (omega (arith, length-drop a s))
      ∙ ap (λ (l : List ℕ). l ∷ []) (sym (take_all (e - a) (drop a s) (omega (arith, length-drop a s))))

-- ---- the first part of what is left from the place a on, as `split_once` tells it of `&s[a..]`: where it ends, and what it is
abbrev pub PartTold : ℕ → List ℕ → ℕ → List ℕ → Type 0
PartTold b s a part =
    (a + length part ≡ a + find b (drop a s)) × (a + length part < length s) × (part ≡ take (a + length part - a) (drop a s))

part_told-by : (b : ℕ) (s : List ℕ) (a : ℕ) (part : List ℕ) → a ≤ length s → find b (drop a s) < length (drop a s)
    → part ≡ take (find b (drop a s)) (drop a s) → PartTold b s a part
part_told-by b s a part from some first =
    let n : length part ≡ find b (drop a s) = ap length first ∙ length-take-le (find b (drop a s)) (drop a s) (omega arith) in
    let k : find b (drop a s) ≡ a + length part - a = omega arith in
    (omega (arith, n), omega (arith, n, length-drop a s), first ∙ ap (λ (m : ℕ). take m (drop a s)) k)

pub part-told : (b : ℕ) (s : List ℕ) (a : ℕ) (part : List ℕ) → a ≤ length s
    → find b (take (length s - a) (drop a s)) < length (take (length s - a) (drop a s))
    → part ≡ take (find b (take (length s - a) (drop a s))) (take (length s - a) (drop a s)) → PartTold b s a part
part-told b s a part from some first =
    let t = tail-part s a in part_told-by b s a part from (rw t at some) (rw t at first)

-- there is none, and the rest is the last
pub part-last : (b : ℕ) (s : List ℕ) (a : ℕ) → a ≤ length s → find b (take (length s - a) (drop a s)) ≡ length (take (length s - a) (drop a s))
    → length s ≡ a + find b (drop a s)
part-last b s a from none = omega (arith, rw (tail-part s a) at none, length-drop a s)

-- ---- the part with a number
get_or-pred : (p : List ℕ) (l : List (List ℕ)) (j : ℕ) → 0 < j → get_or (p ∷ l) j [] ≡ get_or l (j - 1) []
get_or-pred p l zero h = absurd (not-suc-le-zero h)
get_or-pred p l (suc j) h = rw sub-one

get_or-none : (j : ℕ) → get_or {A = List ℕ} [] j [] ≡ []
get_or-none zero = refl
get_or-none (suc j) = refl

module _ (b : ℕ) (s : List ℕ) (a e : ℕ) (found : e ≡ a + find b (drop a s)) (ha : a ≤ length s) where
  pub part-here : get_or (split b (drop a s)) 0 [] ≡ take (e - a) (drop a s)
  part-here =
      by-lt e (length s)
      (λ h. ap (λ (l : List (List ℕ)). get_or l 0 []) (cut-more b s a e found ha h))
      (λ h. ap (λ (l : List (List ℕ)). get_or l 0 []) (cut-last b s a e found ha h))

  pub part-next : (j : ℕ) → 0 < j → e < length s
      → get_or (split b (drop a s)) j [] ≡ get_or (split b (drop (e + 1) s)) (j - 1) []
  part-next j pos h =
      ap (λ (l : List (List ℕ)). get_or l j []) (cut-more b s a e found ha h)
      ∙ get_or-pred (take (e - a) (drop a s)) (split b (drop (e + 1) s)) j pos

  pub part_none : (j : ℕ) → 0 < j → length s ≤ e → get_or (split b (drop a s)) j [] ≡ []
  part_none j pos h =
      ap (λ (l : List (List ℕ)). get_or l j []) (cut-last b s a e found ha h)
      ∙ get_or-pred (take (e - a) (drop a s)) [] j pos
      ∙ get_or-none (j - 1)

-- ---- where a part begins
pred-suc : (j : ℕ) → 0 < j → j ≡ suc (j - 1)
pred-suc j h = omega arith

pub start_first : (b : ℕ) (s : List ℕ) → part_start b 0 s ≡ 0
unfolding part_start
start_first b s = refl

module _ (b : ℕ) (s : List ℕ) (a e : ℕ) (found : e ≡ a + find b (drop a s)) (ha : a ≤ length s) (j : ℕ) (pos : 0 < j) where
  pub start-next : e < length s → a + part_start b j (drop a s) ≡ e + 1 + part_start b (j - 1) (drop (e + 1) s)
  unfolding part_start
  start-next h =
      let f : find b (drop a s) ≡ e - a = omega arith in
      let k : a + (e - a + 1) ≡ e + 1 = omega arith in
      let p : part_start b (suc (j - 1)) (drop a s) ≡ e - a + 1 + part_start b (j - 1) (drop (e + 1) s) =
      rw (lt-ltb (find b (drop a s)) (length (drop a s)) (omega (arith, length-drop a s)), f, drop-drop (e - a + 1) a s, k) in
      ap (λ (n : ℕ). a + part_start b n (drop a s)) (pred-suc j pos) ∙ omega (arith, p)

  pub start_none : length s ≤ e → a + part_start b j (drop a s) ≡ length s
  unfolding part_start
  start_none h =
      let p : part_start b (suc (j - 1)) (drop a s) ≡ length (drop a s) =
      rw (le-ltb (find b (drop a s)) (length (drop a s)) (omega (arith, length-drop a s))) in
      ap (λ (n : ℕ). a + part_start b n (drop a s)) (pred-suc j pos) ∙ omega (arith, p, length-drop a s)

-- nothing is left at the end
pub part_end : (b : ℕ) (s : List ℕ) (a : ℕ) → length s ≤ a → get_or (split b (drop a s)) 0 [] ≡ []
unfolding split
part_end b s a h = ap (λ (l : List ℕ). get_or (split b l) 0 []) (drop_of_length-le s h)

-- the part with the number k is what stands from its beginning to its end
pub part-begins : (b k : ℕ) (s : List ℕ) → get_or (split b s) k [] ≡ take (length (get_or (split b s) k [])) (drop (part_start b k s) s)
unfolding part_start
part-begins b zero s =
    let z : find b s - 0 ≡ find b s = omega arith in
    let p : get_or (split b s) 0 [] ≡ take (find b s) s = part-here b s 0 (find b s) (omega arith) zero-le ∙ ap (λ (m : ℕ). take m s) z in
    let n : length (get_or (split b s) 0 []) ≡ find b s = ap length p ∙ length-take-le (find b s) s (find-le b s) in
    p ∙ ap (λ (m : ℕ). take m s) (sym n)
part-begins b (suc k) s =
    by-lt (find b s) (length s)
    (λ h.
    let n : split b s ≡ take (find b s) s ∷ split b (drop (find b s + 1) s) = rw (add-one (find b s)) (split-more b s h) in
    rw (n, lt-ltb (find b s) (length s) h, ← drop-drop (part_start b k (drop (find b s + 1) s)) (find b s + 1) s)
    (part-begins b k (drop (find b s + 1) s)))
    (λ h. rw (split-last b s h, get_or-none k))

-- ---- `split` and `join` are inverse
-- b is no byte of the part
unfoldable pub without : ℕ → List ℕ → Bool
without b [] = true
without b (x ∷ xs) = not (eqb x b) && without b xs

unfoldable pub all_without : ℕ → List (List ℕ) → Bool
all_without b [] = true
all_without b (p ∷ ps) = without b p && all_without b ps

pub without-append : (b : ℕ) (p q : List ℕ) → without b p ≡ true → without b q ≡ true → without b (p ++ q) ≡ true
unfolding without
without-append b [] q hp hq = hq
without-append b (x ∷ p) q hp hq =
    rw (and_left (not (eqb x b)) (without b p) hp) (without-append b p q (and_right (not (eqb x b)) (without b p) hp) hq)

-- a part without b, with nothing behind it, or with a b and more behind it
pub split-clean : (b : ℕ) (p : List ℕ) → without b p ≡ true → split b p ≡ p ∷ []
unfolding without split on_first
split-clean b [] e = refl
split-clean b (x ∷ p) e =
    rw (not-true (eqb x b) (and_left (not (eqb x b)) (without b p) e))
    (ap (on_first x) (split-clean b p (and_right (not (eqb x b)) (without b p) e)))

pub split-append : (b : ℕ) (p s : List ℕ) → without b p ≡ true → split b (p ++ b ∷ s) ≡ p ∷ split b s
unfolding without split on_first
split-append b [] s e = rw (eq-eqb b b refl)
split-append b (x ∷ p) s e =
    rw (not-true (eqb x b) (and_left (not (eqb x b)) (without b p) e))
    (ap (on_first x) (split-append b p s (and_right (not (eqb x b)) (without b p) e)))

-- the first b behind a part without b
pub find-append : (b : ℕ) (p s : List ℕ) → without b p ≡ true → find b (p ++ b ∷ s) ≡ length p
unfolding without find
find-append b [] s e = rw (eq-eqb b b refl)
find-append b (x ∷ p) s e =
    rw (not-true (eqb x b) (and_left (not (eqb x b)) (without b p) e))
    (ap suc (find-append b p s (and_right (not (eqb x b)) (without b p) e)))

-- parts that hold no b, joined and split again
pub split-join : (b : ℕ) (p : List ℕ) (ps : List (List ℕ)) → all_without b (p ∷ ps) ≡ true → split b (join b (p ∷ ps)) ≡ p ∷ ps
unfolding all_without join
split-join b p [] e = split-clean b p (and_left (without b p) true e)
split-join b p (q ∷ ps) e =
    split-append b p (join b (q ∷ ps)) (and_left (without b p) (all_without b (q ∷ ps)) e)
    ∙ ap (λ (l : List (List ℕ)). p ∷ l) (split-join b q ps (and_right (without b p) (all_without b (q ∷ ps)) e))

-- parts without b, joined by another byte
pub join-without : (b c : ℕ) → (b ≡ c → ⊥) → (ps : List (List ℕ)) → all_without b ps ≡ true → without b (join c ps) ≡ true
unfolding join all_without without
join-without b c h [] e = refl
join-without b c h (p ∷ []) e = and_left (without b p) true e
join-without b c h (p ∷ q ∷ ps) e =
    without-append b p (c ∷ join c (q ∷ ps)) (and_left (without b p) (all_without b (q ∷ ps)) e)
    (rw (ne_eqb c b (λ k. h (sym k))) (join-without b c h (q ∷ ps) (and_right (without b p) (all_without b (q ∷ ps)) e)))

-- how long parts are that are joined
pub join_one : (b : ℕ) (p : List ℕ) → length (join b (p ∷ [])) ≡ length p
unfolding join
join_one b p = refl

pub join_more : (b : ℕ) (p q : List ℕ) (ps : List (List ℕ)) → length (join b (p ∷ q ∷ ps)) ≡ length p + 1 + length (join b (q ∷ ps))
unfolding join
join_more b p q ps = omega (arith, length-append p (b ∷ join b (q ∷ ps)))

split-some-by : (x : ℕ) (l : List (List ℕ)) (t : Bool) → 0 < length l → 0 < length (cond t ([] ∷ l) (on_first x l))
unfolding on_first
split-some-by x [] true h = suc-le-suc zero-le
split-some-by x [] false h = h
split-some-by x (p ∷ l) true h = suc-le-suc zero-le
split-some-by x (p ∷ l) false h = suc-le-suc zero-le

pub split-some : (b : ℕ) (s : List ℕ) → 0 < length (split b s)
unfolding split
split-some b [] = suc-le-suc zero-le
split-some b (x ∷ s) = split-some-by x (split b s) (eqb x b) (split-some b s)

-- the same by a name that an attribute of a function can write
pub ruleset some_part = (split-some)

-- `split` is the library's word
on_first_is : (x : ℕ) (ps : List (List ℕ)) → 0 < length ps → onto_first x ps ≡ on_first x ps
unfolding on_first
on_first_is x [] h = absurd (not-suc-le-zero h)
on_first_is x (p ∷ ps) h = refl

pub split_is : (b : ℕ) (s : List ℕ) → slice_split (λ x. eqb x b) s ≡ split b s
unfolding split
split_is b [] = refl
split_is b (x ∷ s) = rw (split_is b s, on_first_is x (split b s) (split-some b s))

join-skip : (b : ℕ) (l : List (List ℕ)) → 0 < length l → join b ([] ∷ l) ≡ b ∷ join b l
unfolding join
join-skip b [] h = absurd (not-suc-le-zero h)
join-skip b (p ∷ l) h = refl

join-on_first : (b x : ℕ) (l : List (List ℕ)) → 0 < length l → join b (on_first x l) ≡ x ∷ join b l
unfolding join on_first
join-on_first b x [] h = absurd (not-suc-le-zero h)
join-on_first b x (p ∷ []) h = refl
join-on_first b x (p ∷ q ∷ l) h = refl

-- a list split and joined again
pub join-split : (b : ℕ) (s : List ℕ) → join b (split b s) ≡ s
unfolding split join
join-split b [] = refl
join-split b (x ∷ s) =
    let ih = join-split b s in
    by-eq x b
    (λ e. rw (eq-eqb x b e) (join-skip b (split b s) (split-some b s) ∙ rw (ih, e)))
    (λ e. rw (ne_eqb x b e) (join-on_first b x (split b s) (split-some b s) ∙ rw ih))
