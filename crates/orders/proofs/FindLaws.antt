-- What `find` and `any` over the numbers below n answer, where the closure is a test of a number: the lowest that passes, and whether one
-- does. Assumes nothing.
use Prim.Native.Nat.{ℕ, ◌≤◌, ◌<◌}
use native.Mathlib.Omega.{arith}
use native.Mathlib.Nat.{zero-add}
use mathlib.Core.Path.{◌≡◌, refl, sym, ap, subst, ◌∙◌}
use mathlib.Core.Bool.{Bool, true, false}
use mathlib.Core.List.{List}
use lib.ListN.{length}
use denote.Ref.{Bor}
use denote.Param.Members.{Mut}
use Rattle.std.specs.Prelude.{Option, Some, None, MatchOption, MatchBool, ⊤}
use Rattle.std.proofs.lemmas.Iterator.{first_from_Range, cases_from_any, YieldsList-from_range}
use Rattle.std.proofs.lemmas.List.FromFn.{length-range_with_len, get_or-range_with_len}
use Rattle.std.specs.declared.ops.Range.{Range}
use Rattle.std.specs.Iterator.{YieldsThen}
use Rattle.std.specs.List.{FoldsTo, range_with_len, AllWithin, HoldsAt}
use Rattle.std.specs.Fn.{Called, CalledAt}
use Rattle.std.proofs.iter.Yields.{nat_range_steps}
use Rattle.layout.specs.Options.{option_in}
use Rattle.criteria.specs.Tests.{any, lowest, found_if}
use Rattle.criteria.proofs.Lists.{any_at, none_any, none-lowest}
use Rattle.criteria.proofs.Loops.{lowest-found}

-- the first that passes, none before it
lowest_first : (t : ℕ → Bool) (n : ℕ) (r : Option ℕ)
    → MatchOption r ((k : ℕ) → 0 ≤ k → k < n → t k ≡ false) (λ i. (0 ≤ i) × (i < n) × (t i ≡ true) × ((k : ℕ) → 0 ≤ k → k < i → t k ≡ false))
    → option_in r ≡ lowest n (λ e. found_if (t e) e)
lowest_first t n None h =
    sym (none-lowest n (λ i. found_if (t i) i) (λ i m. ap (λ (b : Bool). found_if b i) (h i (omega arith) m)))
lowest_first t n (Some k) h =
    sym (lowest-found n (λ i. found_if (t i) i) k k h.1 (λ i m. ap (λ (b : Bool). found_if b i) (h.3 i (omega arith) m)) (ap (λ (b : Bool). found_if b k) h.2))

-- Kept: each search writes its test in an answer of its own, here and of `any-from_any`: tried with `using(..)` on `in_own_past` and
-- `lacks_past`, and the search does not find the test.
pub lowest-from_find : {F : Type 0} {g : Mut F (Bor ℕ × Unit {0}) Bool} (t : ℕ → Bool) (n : ℕ) (u : Range ℕ) (f : F) (r : Option ℕ)
    → (xs : List ℕ) × (j : F) × YieldsThen nat_range_steps record { start = 0; end = n } xs r u × FoldsTo (λ p x q. CalledAt g p x false q) f xs j
    × MatchOption r ⊤ (λ x. (h : F) × CalledAt g j x true h)
    → ((x : ℕ) (b : Bool) (q : F) → CalledAt g f x b q → (q ≡ f) × (b ≡ t x))
    → option_in r ≡ lowest n (λ e. found_if (t e) e)
lowest-from_find t n u f r d tests =
    lowest_first t n r
    (first_from_Range record { start = 0; end = n } u f r (λ e. t e ≡ true) (λ e. t e ≡ false) d
    (λ x q k. sym (tests x true q k).1)
    (λ x q k. let p = tests x false q k in (p.0, sym p.1)))

-- some number that passes, or none
any_some_of : (t : ℕ → Bool) (n : ℕ) (r : Bool)
    → MatchBool r ((k : ℕ) × (k < length (range_with_len 0 n)) × HoldsAt (λ e. t e ≡ true) (range_with_len 0 n) k)
    (AllWithin (λ e. t e ≡ false) (range_with_len 0 n) 0 (length (range_with_len 0 n)))
    → r ≡ any n t
any_some_of t n true h =
    let l : h.0 < n = omega (arith, h.1, length-range_with_len 0 n) in
    sym (any_at n t h.0 l (subst (λ (k : ℕ). t k ≡ true) (get_or-range_with_len 0 n h.0 0 l ∙ zero-add h.0) (h.2 0)))
any_some_of t n false h =
    sym (none_any n t (λ k l. subst (λ (j : ℕ). t j ≡ false) (get_or-range_with_len 0 n k 0 l ∙ zero-add k) (h k 0 (omega arith) (omega (arith, length-range_with_len 0 n)))))

pub any-from_any : {F : Type 0} {g : Mut F (ℕ × Unit {0}) Bool} (t : ℕ → Bool) (n : ℕ) (u : Range ℕ) (f : F) (r : Bool)
    → (xs : List ℕ) × (o : Option ℕ) × (j : F) × YieldsThen nat_range_steps record { start = 0; end = n } xs o u
    × FoldsTo (λ p x q. Called g p (x, tt) false q) f xs j
    × MatchOption o (r ≡ false) (λ x. (r ≡ true) × ((h : F) × Called g j (x, tt) true h))
    → ((x : ℕ) (b : Bool) (q : F) → Called g f (x, tt) b q → (q ≡ f) × (b ≡ t x))
    → r ≡ any n t
any-from_any t n u f r d tests =
    any_some_of t n r
    (cases_from_any u f r (λ e. t e ≡ true) (λ e. t e ≡ false) d (YieldsList-from_range 0 n n refl (omega arith))
    (λ x q k. sym (tests x true q k).1)
    (λ x q k. let p = tests x false q k in (p.0, sym p.1)))
