-- Tests over numbers and lists of numbers, each by its own recursion. Nothing here knows of histories.
use Rattle.std.specs.Prelude.{Bool, true, false, ◌&&◌, ◌||◌, cond, List, [], ◌∷◌, ◌++◌, ℕ, zero, suc, ◌≤◌, eqb}
use Rattle.std.proofs.Math.Option.{Option, none, some}

-- Some number below n passes the test.
abbrev pub any : ℕ → (ℕ → Bool) → Bool
any zero f = false
any (suc n) f = any n f || f n

-- The highest number below n that passes, 0 if none does.
abbrev pub highest : ℕ → (ℕ → Bool) → ℕ
highest zero f = zero
highest (suc n) f = cond (f n) n (highest n f)

module _ {A : Type 0} where
  -- The first of two that is found.
  abbrev pub or : Option A → Option A → Option A
  or (some a) b = some a
  or none b = b

  -- Found where the test passed.
  abbrev pub found_if : Bool → A → Option A
  found_if true a = some a
  found_if false a = none

  -- What f finds at the lowest number below n where it finds something.
  abbrev pub lowest : ℕ → (ℕ → Option A) → Option A
  lowest zero f = none
  lowest (suc n) f = or (lowest n f) (f n)

  -- f 0, f 1, .. f (n - 1).
  abbrev pub table : ℕ → (ℕ → A) → List A
  table zero f = []
  table (suc n) f = table n f ++ (f n ∷ [])

  -- The entries that pass, in their order.
  abbrev pub keep_if : Bool → A → List A → List A
  keep_if true x l = x ∷ l
  keep_if false x l = l

  abbrev pub keep : (A → Bool) → List A → List A
  keep f [] = []
  keep f (x ∷ xs) = keep_if (f x) x (keep f xs)

-- 0, 1, .. n - 1.
abbrev pub up_to : ℕ → List ℕ
up_to n = table n (λ k. k)

-- One more if the test passed.
abbrev pub more : Bool → ℕ → ℕ
more true n = suc n
more false n = n

abbrev pub one : Bool → ℕ
one b = more b zero

-- How often e stands in the list, and whether it does.
abbrev pub count : ℕ → List ℕ → ℕ
count e [] = zero
count e (x ∷ xs) = more (eqb e x) (count e xs)

abbrev pub mem : ℕ → List ℕ → Bool
mem e [] = false
mem e (x ∷ xs) = eqb e x || mem e xs

-- The place of the first e in the list; its length, if e does not stand there.
abbrev pub place : ℕ → List ℕ → ℕ
place e [] = zero
place e (x ∷ xs) = cond (eqb e x) zero (suc (place e xs))

-- Each entry is above the one before it.
abbrev pub RisingFrom : ℕ → List ℕ → Type 0
RisingFrom b [] = Unit {0}
RisingFrom b (x ∷ xs) = (b ≤ x) × RisingFrom (suc x) xs

abbrev pub Rising : List ℕ → Type 0
Rising l = RisingFrom zero l

-- Two lists of numbers are equal.
abbrev pub same_list : List ℕ → List ℕ → Bool
same_list [] [] = true
same_list [] (y ∷ ys) = false
same_list (x ∷ xs) [] = false
same_list (x ∷ xs) (y ∷ ys) = eqb x y && same_list xs ys
