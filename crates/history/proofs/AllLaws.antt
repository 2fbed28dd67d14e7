-- A test of every element of a list, where `iter().all` with the test of one element answers it. Assumes nothing.
use mathlib.Core.Path.{◌≡◌, sym, ap, ◌∙◌}
use mathlib.Core.Bool.{Bool, true, false, ◌&&◌}
use mathlib.Core.List.{List, [], ◌∷◌}
use denote.Param.Members.{Mut}
use Rattle.std.specs.Prelude.{Option, MatchOption}
use Rattle.std.specs.Iterator.{YieldsThen}
use Rattle.std.specs.List.{FoldsTo, list_all}
use Rattle.std.specs.Fn.{Called}
use Rattle.std.proofs.lemmas.Iterator.{YieldsList}
use Rattle.std.proofs.lemmas.Iterator.Search.{all_from_yields_List}

-- `all` holds of a list where `one` holds of each element
all_is : {A : Type 0} (one : A → Bool) (all : List A → Bool) → all [] ≡ true → ((x : A) (xs : List A) → all (x ∷ xs) ≡ one x && all xs)
    → (xs : List A) → all xs ≡ list_all one xs
all_is one all none more [] = none
all_is one all none more (x ∷ xs) = more x xs ∙ ap (λ (b : Bool). one x && b) (all_is one all none more xs)

-- what `iter().all` answers then
pub all-from_all : {S A B F : Type 0} {steps : S → Option A → S → Type 0} {v : A → B} {g : Mut F (A × Unit {0}) Bool} {s : S} {ys : List B}
    (one : B → Bool) (all : List B → Bool) (u : S) (f : F) (r : Bool) → all [] ≡ true → ((y : B) (more : List B) → all (y ∷ more) ≡ one y && all more)
    → (xs : List A) × (o : Option A) × (j : F) × YieldsThen steps s xs o u × FoldsTo (λ p x q. Called g p (x, tt) true q) f xs j
    × MatchOption o (r ≡ true) (λ x. (r ≡ false) × ((h : F) × Called g j (x, tt) false h))
    → YieldsList steps v s ys → ((x : A) (b : Bool) (q : F) → Called g f (x, tt) b q → (q ≡ f) × (b ≡ one (v x))) → r ≡ all ys
all-from_all {ys} one all u f r none more ran given tests =
    all_from_yields_List one u f r ran given tests ∙ sym (all_is one all none more ys)
