-- Laws of the tests of `specs/Tests.antt`: bounded search, counting, membership, places, rising lists. Assumes nothing.
use mathlib.Core.Path.{◌≡◌, refl, sym, ap, ap₂, ◌∙◌, subst}
use mathlib.Core.Logic.{◌⊎◌, inl, inr}
use mathlib.Core.Bool.{Bool, true, false, ◌&&◌, ◌||◌, cond, true≢false, false≢true}
use mathlib.Core.List.{List, [], ◌∷◌, ◌++◌, append-nil}
use mathlib.Core.Option.{Option, none, some}
use Prim.Native.Nat.{ℕ, zero, suc, ◌+◌, ◌≤◌, ◌<◌}
use native.Mathlib.Nat.{not-suc-le-zero, le_of_suc-le-suc}
use native.Mathlib.Omega.{arith}
use lib.Dec.{eqb, ltb}
use lib.ListN.{length, get_or, take, length-append, get_or-append, get_or-eq_default}
use lib.Seq.{get_or_at}
use borrow.Author.Tests.{ltb-true, ltb-false, eqb-true, eqb-false, lt-ltb, le-ltb, eq-eqb, ne_eqb}
use Rattle.layout.proofs.Cases.{true-and}
use Rattle.criteria.specs.Tests.{any, highest, or, found_if, lowest, table, up_to, keep_if, keep, more, one, count, mem, place, RisingFrom, Rising, same_list}
use Rattle.criteria.specs.History.{IsView}

-- ---- Booleans

pub by-test {ℓ} : {P : Type ℓ} (b : Bool) → (b ≡ true → P) → (b ≡ false → P) → P
by-test true f g = f refl
by-test false f g = g refl

pub clash {ℓ} : {P : Type ℓ} {b : Bool} → b ≡ true → b ≡ false → P
clash p q = absurd (true≢false (sym p ∙ q))

pub and-true : (a b : Bool) → a && b ≡ true → (a ≡ true) × (b ≡ true)
and-true true b e = (refl, e)
and-true false b e = absurd (false≢true e)

pub or-false : (a b : Bool) → a || b ≡ false → (a ≡ false) × (b ≡ false)
or-false true b e = absurd (true≢false e)
or-false false b e = (refl, e)

pub or-true : (a b : Bool) → a || b ≡ true → (a ≡ true) ⊎ (b ≡ true)
or-true true b e = inl refl
or-true false b e = inr e

pub true-or-left : {a : Bool} (b : Bool) → a ≡ true → a || b ≡ true
true-or-left b p = cc

pub true-or-right : (a : Bool) {b : Bool} → b ≡ true → a || b ≡ true
true-or-right true p = refl
true-or-right false p = p

-- two tests that pass at the same time are equal
pub same_test : (a b : Bool) → (a ≡ true → b ≡ true) → (b ≡ true → a ≡ true) → a ≡ b
same_test true b f g = sym (f refl)
same_test false true f g = g refl
same_test false false f g = refl

pub below_suc {ℓ} : {P : Type ℓ} (i n : ℕ) → i < suc n → (i < n → P) → (i ≡ n → P) → P
below_suc i n h f g = by-test (ltb i n) (λ t. f (ltb-true i n t)) (λ e. let l = ltb-false i n e in g (omega arith))

-- ---- any, highest

pub any_none : (n : ℕ) (f : ℕ → Bool) → any n f ≡ false → (i : ℕ) → i < n → f i ≡ false
any_none zero f e i h = absurd (not-suc-le-zero h)
any_none (suc n) f e i h =
    below_suc i n h (λ l. any_none n f (or-false (any n f) (f n) e).0 i l) (λ q. ap f q ∙ (or-false (any n f) (f n) e).1)

pub none_any : (n : ℕ) (f : ℕ → Bool) → ((i : ℕ) → i < n → f i ≡ false) → any n f ≡ false
none_any zero f g = refl
none_any (suc n) f g = rw (none_any n f (λ i h. g i (omega arith))) (g n (omega arith))

pub any_at : (n : ℕ) (f : ℕ → Bool) (i : ℕ) → i < n → f i ≡ true → any n f ≡ true
any_at n f i h t = by-test (any n f) (λ p. p) (λ p. clash t (any_none n f p i h))

pub any_some : (n : ℕ) (f : ℕ → Bool) → any n f ≡ true → (i : ℕ) × (i < n) × (f i ≡ true)
any_some zero f e = absurd (false≢true e)
any_some (suc n) f e = go (or-true (any n f) (f n) e) (any_some n f)
  where
    go : (any n f ≡ true) ⊎ (f n ≡ true) → (any n f ≡ true → (i : ℕ) × (i < n) × (f i ≡ true)) → (i : ℕ) × (i < suc n) × (f i ≡ true)
    go (inl l) r = let x = r l in (x.0, omega arith, x.2)
    go (inr q) r = (n, omega arith, q)

pub highest-passes : (n : ℕ) (f : ℕ → Bool) (i : ℕ) → i < n → f i ≡ true → (f (highest n f) ≡ true) × (highest n f < n) × (i ≤ highest n f)
highest-passes zero f i h t = absurd (not-suc-le-zero h)
highest-passes (suc n) f i h t = go (highest-passes n f i) (f n) refl
  where
    go : (i < n → f i ≡ true → (f (highest n f) ≡ true) × (highest n f < n) × (i ≤ highest n f)) → (b : Bool) → f n ≡ b
        → (f (cond b n (highest n f)) ≡ true) × (cond b n (highest n f) < suc n) × (i ≤ cond b n (highest n f))
    go r true q = (q, omega arith, omega arith)
    go r false q =
        let s = r (below_suc i n h (λ l. l) (λ e. clash t (ap f e ∙ q))) t in
        (s.0, omega arith, s.2)

-- ---- lowest

module _ {A : Type 0} where
  pub or-none : (a b : Option A) → or a b ≡ none → (a ≡ none) × (b ≡ none)
  or-none none b e = (refl, e)
  or-none (some x) b e = (e, cc)

  pub flag-none : (b : Bool) (a : A) → found_if b a ≡ none → b ≡ false
  flag-none true a e = cc
  flag-none false a e = refl

  pub lowest-none : (n : ℕ) (f : ℕ → Option A) → lowest n f ≡ none → (i : ℕ) → i < n → f i ≡ none
  lowest-none zero f e i h = absurd (not-suc-le-zero h)
  lowest-none (suc n) f e i h =
      below_suc i n h (λ l. lowest-none n f (or-none (lowest n f) (f n) e).0 i l)
      (λ q. ap f q ∙ (or-none (lowest n f) (f n) e).1)

  pub none-lowest : (n : ℕ) (f : ℕ → Option A) → ((i : ℕ) → i < n → f i ≡ none) → lowest n f ≡ none
  none-lowest zero f g = refl
  none-lowest (suc n) f g = rw (none-lowest n f (λ i h. g i (omega arith))) (g n (omega arith))

  -- ---- tables

  pub length-table : (n : ℕ) (f : ℕ → A) → length (table n f) ≡ n
  length-table zero f = refl
  length-table (suc n) f = let r = length-table n f in omega (arith, length-append (table n f) (f n ∷ []))

  pub get_or-table : (n : ℕ) (f : ℕ → A) (i : ℕ) (d : A) → i < n → get_or (table n f) i d ≡ f i
  get_or-table zero f i d h = absurd (not-suc-le-zero h)
  get_or-table (suc n) f i d h =
      below_suc i n h
      (λ l. get_or-append (table n f) (f n ∷ []) d i (omega (arith, length-table n f)) ∙ get_or-table n f i d l)
      (λ q. get_or_at (table n f) (f n) [] d i (length-table n f ∙ sym q) ∙ ap f (sym q))

  -- tables of what agrees below n
  pub table_below : (n : ℕ) (f g : ℕ → A) → ((k : ℕ) → k < n → f k ≡ g k) → table n f ≡ table n g
  table_below zero f g h = refl
  table_below (suc n) f g h = rw (table_below n f g (λ k l. h k (omega arith)), h n (omega arith))

  pub get_or-table-out : (n : ℕ) (f : ℕ → A) (i : ℕ) (d : A) → n ≤ i → get_or (table n f) i d ≡ d
  get_or-table-out n f i d h = get_or-eq_default (table n f) d (omega (arith, length-table n f))

-- ---- counts and membership

-- at the head of a list the number counted is the head or is not
pub at_head {ℓ} : {P : Type ℓ} (e x : ℕ) → (eqb e x ≡ true → e ≡ x → P) → (eqb e x ≡ false → (e ≡ x → ⊥) → P) → P
at_head e x f g = by-test (eqb e x) (λ t. f t (eqb-true e x t)) (λ t. g t (eqb-false e x t))

pub more-add : (b : Bool) (n m : ℕ) → more b (n + m) ≡ more b n + m
more-add true n m = omega arith
more-add false n m = refl

pub count-append : (e : ℕ) (a b : List ℕ) → count e (a ++ b) ≡ count e a + count e b
count-append e [] b = omega arith
count-append e (x ∷ a) b = ap (more (eqb e x)) (count-append e a b) ∙ more-add (eqb e x) (count e a) (count e b)

pub mem-append : (e : ℕ) (a b : List ℕ) → mem e (a ++ b) ≡ mem e a || mem e b
mem-append e [] b = refl
mem-append e (x ∷ a) b = ap (λ (t : Bool). eqb e x || t) (mem-append e a b) ∙ assoc (eqb e x) (mem e a) (mem e b)
  where
    assoc : (p q r : Bool) → p || (q || r) ≡ (p || q) || r
    assoc true q r = refl
    assoc false q r = refl

count-keep_if : (e x : ℕ) (l : List ℕ) (b : Bool) → count e (keep_if b x l) ≡ more (b && eqb e x) (count e l)
count-keep_if e x l true = refl
count-keep_if e x l false = refl

pub count-keep : (f : ℕ → Bool) (e : ℕ) (l : List ℕ) → count e (keep f l) ≡ cond (f e) (count e l) 0
count-keep f e [] = go (f e)
  where
    go : (b : Bool) → ◌≡◌ {A = ℕ} 0 (cond b 0 0)
    go true = refl
    go false = refl
count-keep f e (x ∷ l) = count-keep_if e x (keep f l) (f x) ∙ ap (more (f x && eqb e x)) (count-keep f e l) ∙ go
  where
    here : (b : Bool) (n : ℕ) → more (b && true) (cond b n 0) ≡ cond b (suc n) 0
    here true n = refl
    here false n = refl

    there : (b c : Bool) (n : ℕ) → more (b && false) (cond c n 0) ≡ cond c n 0
    there true c n = refl
    there false c n = refl

    go : more (f x && eqb e x) (cond (f e) (count e l) 0) ≡ cond (f e) (more (eqb e x) (count e l)) 0
    go = at_head e x (λ t q. rw (t, ← q) (here (f e) (count e l))) (λ t q. rw t (there (f x) (f e) (count e l)))

pub one-suc : (e n : ℕ) → one (ltb e n) + one (eqb e n) ≡ one (ltb e (suc n))
one-suc e n =
    by-test (ltb e n)
    (λ t. let l = ltb-true e n t in rw (t, lt-ltb e (suc n) (omega arith), ne_eqb e n (omega arith)) refl)
    (λ t. let l = ltb-false e n t in
    at_head e n (λ s q. rw (t, s, lt-ltb e (suc n) (omega arith)) refl)
    (λ s q. rw (t, s, le-ltb e (suc n) (omega arith)) refl))

pub count-up_to : (e n : ℕ) → count e (up_to n) ≡ one (ltb e n)
count-up_to e zero = rw (le-ltb e zero (omega arith)) refl
count-up_to e (suc n) = count-append e (up_to n) (n ∷ []) ∙ ap (λ (k : ℕ). k + one (eqb e n)) (count-up_to e n) ∙ one-suc e n

-- a number is in a list just if it is counted there
pub mem-counted : (e : ℕ) (l : List ℕ) → mem e l ≡ true → 1 ≤ count e l
mem-counted e [] t = absurd (false≢true t)
mem-counted e (x ∷ l) t =
    at_head e x (λ s q. rw s (omega arith)) (λ s q. rw s (mem-counted e l (rw s at t)))

pub counted-mem : (e : ℕ) (l : List ℕ) → 1 ≤ count e l → mem e l ≡ true
counted-mem e [] h = absurd (not-suc-le-zero h)
counted-mem e (x ∷ l) h = at_head e x (λ s q. rw s) (λ s q. rw s (counted-mem e l (rw s at h)))

pub count-out : (e : ℕ) (l : List ℕ) → mem e l ≡ false → count e l ≡ 0
count-out e l f = by-test (ltb 0 (count e l)) (λ t. clash (counted-mem e l (ltb-true 0 (count e l) t)) f) (λ t. let g = ltb-false 0 (count e l) t in omega arith)

pub mem-keep : (f : ℕ → Bool) (e : ℕ) (l : List ℕ) → mem e (keep f l) ≡ true → (f e ≡ true) × (mem e l ≡ true)
mem-keep f e l t = go (f e) refl (subst (λ (k : ℕ). 1 ≤ k) (count-keep f e l) (mem-counted e (keep f l) t))
  where
    go : (b : Bool) → f e ≡ b → 1 ≤ cond b (count e l) 0 → (f e ≡ true) × (mem e l ≡ true)
    go true q h = (q, counted-mem e l h)
    go false q h = absurd (not-suc-le-zero h)

pub keep-mem : (f : ℕ → Bool) (e : ℕ) (l : List ℕ) → f e ≡ true → mem e l ≡ true → mem e (keep f l) ≡ true
keep-mem f e l p t = counted-mem e (keep f l) (rw (count-keep, p) (mem-counted e l t))

pub mem-up_to : (e n : ℕ) → mem e (up_to n) ≡ true → e < n
mem-up_to e n t = by-test (ltb e n) (λ s. ltb-true e n s) (λ s. let c : 1 ≤ 0 = rw (count-up_to, s) at (mem-counted e (up_to n) t) in omega arith)

pub up_to-mem : (e n : ℕ) → e < n → mem e (up_to n) ≡ true
up_to-mem e n h = counted-mem e (up_to n) (rw (count-up_to, lt-ltb e n h) (omega arith))

pub mem-get_or : (l : List ℕ) (i : ℕ) → i < length l → mem (get_or l i 0) l ≡ true
mem-get_or [] i h = absurd (not-suc-le-zero h)
mem-get_or (x ∷ l) zero h = rw (eq-eqb x x refl) refl
mem-get_or (x ∷ l) (suc i) h = true-or-right (eqb (get_or l i 0) x) (mem-get_or l i (le_of_suc-le-suc h))

-- ---- lists in which nothing stands twice

abbrev pub Once : List ℕ → Type 0
Once v = (e : ℕ) → count e v ≤ 1

pub once-tail : (x : ℕ) (v : List ℕ) → Once (x ∷ v) → Once v
once-tail x v o e = go (eqb e x) (o e)
  where
    go : (b : Bool) → more b (count e v) ≤ 1 → count e v ≤ 1
    go true h = omega arith
    go false h = h

pub once-head : (x : ℕ) (v : List ℕ) → Once (x ∷ v) → mem x v ≡ false
once-head x v o =
    by-test (mem x v)
    (λ t. let c : more true (count x v) ≤ 1 = rw (eq-eqb x x refl) at (o x) in
    let m = mem-counted x v t in absurd (omega arith))
    (λ f. f)

pub count-of-mem : (e : ℕ) (l : List ℕ) (b : Bool) → count e l ≤ 1 → mem e l ≡ b → count e l ≡ one b
count-of-mem e l true o t = let m = mem-counted e l t in omega arith
count-of-mem e l false o t = count-out e l t

pub mem-of-count : (e : ℕ) (l : List ℕ) (b : Bool) → count e l ≡ one b → mem e l ≡ b
mem-of-count e l true c = counted-mem e l (omega arith)
mem-of-count e l false c = by-test (mem e l) (λ t. let m = mem-counted e l t in absurd (omega arith)) (λ f. f)

pub one-le : (b : Bool) → one b ≤ 1
one-le true = omega arith
one-le false = omega arith

pub once-of-count : (P : ℕ → Bool) (v : List ℕ) → ((e : ℕ) → count e v ≡ one (P e)) → Once v
once-of-count P v c e = rw (c e) (one-le (P e))

-- a list of numbers below n without repeats has at most n entries
total : ℕ → List ℕ → ℕ
total zero v = zero
total (suc n) v = total n v + count n v

total-nil : (n : ℕ) → total n [] ≡ 0
unfolding total
total-nil zero = refl
total-nil (suc n) = let r = total-nil n in omega arith

more-one : (b : Bool) (n : ℕ) → more b n ≡ n + one b
more-one true n = omega arith
more-one false n = omega arith

total-cons : (n x : ℕ) (v : List ℕ) → total n (x ∷ v) ≡ total n v + one (ltb x n)
unfolding total
total-cons zero x v = rw (le-ltb x 0 (omega arith)) (omega arith)
total-cons (suc n) x v =
    let r = total-cons n x v in
    let m = more-one (eqb n x) (count n v) in
    let s = one-suc x n in
    let q : one (eqb n x) ≡ one (eqb x n) = ap one (eqb_comm n x) in
    omega arith
  where
    eqb_comm : (a b : ℕ) → eqb a b ≡ eqb b a
    eqb_comm a b = same_test (eqb a b) (eqb b a) (λ t. eq-eqb b a (sym (eqb-true a b t))) (λ t. eq-eqb a b (sym (eqb-true b a t)))

total-length : (n : ℕ) (v : List ℕ) → ((e : ℕ) → mem e v ≡ true → e < n) → total n v ≡ length v
total-length n [] h = total-nil n
total-length n (x ∷ v) h =
    let r = total-length n v (λ e t. h e (true-or-right (eqb e x) t)) in
    let c : total n (x ∷ v) ≡ total n v + 1 = rw (lt-ltb x n (h x (true-or-left (mem x v) (eq-eqb x x refl)))) at (total-cons n x v) in
    omega arith

total-le : (n : ℕ) (v : List ℕ) → Once v → total n v ≤ n
unfolding total
total-le zero v o = omega arith
total-le (suc n) v o = let r = total-le n v o in let c = o n in omega arith

pub length-once : (n : ℕ) (v : List ℕ) → ((e : ℕ) → mem e v ≡ true → e < n) → Once v → length v ≤ n
length-once n v h o = let a = total-length n v h in let b = total-le n v o in omega arith

-- and one of all numbers below n, each once, has n
total-all : (n : ℕ) (v : List ℕ) → ((e : ℕ) → e < n → count e v ≡ 1) → total n v ≡ n
unfolding total
total-all zero v c = refl
total-all (suc n) v c = let r = total-all n v (λ e l. c e (omega arith)) in let k = c n (omega arith) in omega arith

pub all-length : (n : ℕ) (v : List ℕ) → IsView (λ e. ltb e n) v → length v ≡ n
unfolding IsView
all-length n v i =
    sym (total-length n v (λ e t. ltb-true e n (sym (mem-of-count e v (ltb e n) (i e)) ∙ t)))
    ∙ total-all n v (λ e l. i e ∙ ap one (lt-ltb e n l))

-- ---- places

pub place_in : (e : ℕ) (v : List ℕ) → mem e v ≡ true → (place e v < length v) × (get_or v (place e v) 0 ≡ e)
place_in e [] t = absurd (false≢true t)
place_in e (x ∷ v) t =
    at_head e x (λ s q. rw s (omega arith, sym q))
    (λ s q. let r = place_in e v (rw s at t) in rw s (omega arith, r.1))

pub place_out : (e : ℕ) (v : List ℕ) → mem e v ≡ false → place e v ≡ length v
place_out e [] f = refl
place_out e (x ∷ v) f =
    let o = or-false (eqb e x) (mem e v) f in
    rw o.0 (ap suc (place_out e v o.1))

pub place-get_or : (v : List ℕ) (i : ℕ) → Once v → i < length v → place (get_or v i 0) v ≡ i
place-get_or [] i o h = absurd (not-suc-le-zero h)
place-get_or (x ∷ v) zero o h = rw (eq-eqb x x refl) refl
place-get_or (x ∷ v) (suc i) o h =
    at_head (get_or v i 0) x
    (λ s q. clash (subst (λ (k : ℕ). mem k v ≡ true) q (mem-get_or v i (le_of_suc-le-suc h))) (once-head x v o))
    (λ s q. rw s (ap suc (place-get_or v i (once-tail x v o) (le_of_suc-le-suc h))))

pub mem-take : (e k : ℕ) (v : List ℕ) → mem e v ≡ true → place e v < k → mem e (take k v) ≡ true
mem-take e zero v t h = absurd (not-suc-le-zero h)
mem-take e (suc k) [] t h = t
mem-take e (suc k) (x ∷ v) t h =
    at_head e x (λ s q. rw s refl)
    (λ s q. rw s (mem-take e k v (rw s at t) (le_of_suc-le-suc (subst (λ (b : Bool). cond b zero (suc (place e v)) < suc k) s h))))

pub take-mem : (e k : ℕ) (v : List ℕ) → mem e (take k v) ≡ true → (mem e v ≡ true) × (place e v < k)
take-mem e zero v t = absurd (false≢true t)
take-mem e (suc k) [] t = absurd (false≢true t)
take-mem e (suc k) (x ∷ v) t =
    at_head e x (λ s q. rw s (refl, omega arith))
    (λ s q. let r = take-mem e k v (rw s at t) in rw s (r.0, omega arith))

pub count-take : (e k : ℕ) (v : List ℕ) → count e (take k v) ≤ count e v
count-take e zero v = omega arith
count-take e (suc k) [] = omega arith
count-take e (suc k) (x ∷ v) = go (eqb e x) (count-take e k v)
  where
    go : (b : Bool) → count e (take k v) ≤ count e v → more b (count e (take k v)) ≤ more b (count e v)
    go true h = omega arith
    go false h = h

pub once-take : (k : ℕ) (v : List ℕ) → Once v → Once (take k v)
once-take k v o e = let a = count-take e k v in let b = o e in omega arith

-- ---- what is kept

pub once-keep : (f : ℕ → Bool) (v : List ℕ) → Once v → Once (keep f v)
once-keep f v o e = rw (count-keep) (go (f e))
  where
    go : (b : Bool) → cond b (count e v) 0 ≤ 1
    go true = o e
    go false = omega arith

module _ {A : Type 0} where
  pub keep_append : (f : A → Bool) (a b : List A) → keep f (a ++ b) ≡ keep f a ++ keep f b
  keep_append f [] b = refl
  keep_append f (x ∷ a) b = ap (keep_if (f x) x) (keep_append f a b) ∙ go (f x)
    where
      go : (t : Bool) → keep_if t x (keep f a ++ keep f b) ≡ keep_if t x (keep f a) ++ keep f b
      go true = refl
      go false = refl

  pub keep-cong : (f g : A → Bool) (l : List A) → ((x : A) → f x ≡ g x) → keep f l ≡ keep g l
  keep-cong f g l e = ap (λ (k : A → Bool). keep k l) (λ i x. e x i)

-- what passes just at the first k places
pub keep-take : (f : ℕ → Bool) (v : List ℕ) (k : ℕ) → ((i : ℕ) → i < length v → f (get_or v i 0) ≡ ltb i k) → keep f v ≡ take k v
keep-take f [] zero h = refl
keep-take f [] (suc k) h = refl
keep-take f (x ∷ v) zero h =
    rw (h zero (omega arith)) (keep-take f v zero (λ i l. h (suc i) (omega arith) ∙ le-ltb (suc i) 0 (omega arith) ∙ sym (le-ltb i 0 (omega arith))))
keep-take f (x ∷ v) (suc k) h =
    let z : f x ≡ true = h zero (omega arith) ∙ lt-ltb 0 (suc k) (omega arith) in
    rw z (ap (λ (l : List ℕ). x ∷ l) (keep-take f v k (λ i l. h (suc i) (omega arith) ∙ ltb-suc i k)))
  where
    ltb-suc : (i k : ℕ) → ltb (suc i) (suc k) ≡ ltb i k
    ltb-suc i k =
        same_test (ltb (suc i) (suc k)) (ltb i k) (λ t. let l = ltb-true (suc i) (suc k) t in lt-ltb i k (omega arith))
        (λ t. let l = ltb-true i k t in lt-ltb (suc i) (suc k) (omega arith))

-- ---- rising lists

rising_snoc : (b x : ℕ) (l : List ℕ) → RisingFrom b l → b ≤ x → ((e : ℕ) → mem e l ≡ true → e < x) → RisingFrom b (l ++ (x ∷ []))
rising_snoc b x [] r h m = (h, tt)
rising_snoc b x (y ∷ l) r h m =
    (r.0, rising_snoc (suc y) x l r.1 (m y (true-or-left (mem y l) (eq-eqb y y refl))) (λ e t. m e (true-or-right (eqb e y) t)))

pub rising-keep : (f : ℕ → Bool) (n : ℕ) → Rising (keep f (up_to n))
rising-keep f zero = tt
rising-keep f (suc n) = subst Rising (sym (keep_append f (up_to n) (n ∷ []))) (go (rising-keep f n) (f n))
  where
    go : Rising (keep f (up_to n)) → (t : Bool) → Rising (keep f (up_to n) ++ keep_if t n [])
    go r true = rising_snoc 0 n (keep f (up_to n)) r (omega arith) (λ e t. mem-up_to e n (mem-keep f e (up_to n) t).1)
    go r false = subst Rising (sym (append-nil (keep f (up_to n)))) r

-- ---- lists compared

pub same-list : (a b : List ℕ) → same_list a b ≡ true → a ≡ b
same-list [] [] t = refl
same-list [] (y ∷ b) t = absurd (false≢true t)
same-list (x ∷ a) [] t = absurd (false≢true t)
same-list (x ∷ a) (y ∷ b) t =
    let s = and-true (eqb x y) (same_list a b) t in
    ap₂ (λ (k : ℕ) (l : List ℕ). k ∷ l) (eqb-true x y s.0) (same-list a b s.1)

pub list_same : (a : List ℕ) → same_list a a ≡ true
list_same [] = refl
list_same (x ∷ a) = true-and (eq-eqb x x refl) (list_same a)
