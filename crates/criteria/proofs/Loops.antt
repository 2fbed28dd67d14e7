-- What a loop needs of the tests and of the check: one more entry, and the first that is found. Assumes nothing.
use mathlib.Core.Path.{◌≡◌, refl, sym, ap, ◌∙◌}
use mathlib.Core.Bool.{Bool, true, false, not, ◌&&◌, ◌||◌, or-false}
use mathlib.Core.List.{List, [], ◌∷◌, ◌++◌}
use mathlib.Core.Option.{Option, none, some}
use Prim.Native.Nat.{ℕ, zero, suc, ◌<◌}
use native.Mathlib.Nat.{not-suc-le-zero, le_of_suc-le-suc}
use native.Mathlib.Omega.{arith}
use lib.Dec.{eqb}
use lib.ListN.{length, get_or, take}
use lib.Seq.{take-suc}
use Rattle.criteria.specs.Tests.{lowest, keep_if, keep, mem}
use Rattle.criteria.specs.History.{History}
use Rattle.criteria.specs.Replay.{Contents, changed, after_all, Right, Replays}
use Rattle.criteria.specs.Check.{right, first_wrong}
use Rattle.criteria.proofs.Lists.{below_suc, none-lowest, mem-append, keep_append}

-- the search found something at k and nothing below
pub lowest-found : {A : Type 0} (n : ℕ) (f : ℕ → Option A) (k : ℕ) (a : A) → k < n → ((i : ℕ) → i < k → f i ≡ none) → f k ≡ some a → lowest n f ≡ some a
lowest-found zero f k a l g e = absurd (not-suc-le-zero l)
lowest-found (suc n) f k a l g e =
    below_suc k n l (λ m. rw (lowest-found n f k a m g e) refl)
    (λ q. rw (none-lowest n f (λ i m. g i (omega arith))) (ap f (sym q) ∙ e))

-- one more entry of a list
pub mem-take-suc : (e : ℕ) (v : List ℕ) (i : ℕ) → i < length v → mem e (take (suc i) v) ≡ mem e (take i v) || eqb e (get_or v i 0)
mem-take-suc e v i l = ap (mem e) (take-suc v i 0 l) ∙ mem-append e (take i v) (get_or v i 0 ∷ []) ∙ ap (λ (b : Bool). mem e (take i v) || b) (or-false (eqb e (get_or v i 0)))

pub keep-take-suc : (f : ℕ → Bool) (v : List ℕ) (i : ℕ) → i < length v → keep f (take (suc i) v) ≡ keep f (take i v) ++ keep_if (f (get_or v i 0)) (get_or v i 0) []
keep-take-suc f v i l = ap (keep f) (take-suc v i 0 l) ∙ keep_append f (take i v) (get_or v i 0 ∷ [])

-- an event's visible answer is right after what stands before it
pub replays-at : (h : History) (vis : ℕ → Bool) (s : Contents) (a : List ℕ) (e : ℕ) (b : List ℕ) → Replays h vis s (a ++ (e ∷ b)) → vis e ≡ true
    → Right h (after_all h s a) e
replays-at h vis s [] e b r t = r.0 t
replays-at h vis s (x ∷ a) e b r t = replays-at h vis (changed h s x) a e b r.1 t

-- a view replays whose visible answers are right after what stands before them
pub right-replays : (h : History) (vis : ℕ → Bool) (s : Contents) (v : List ℕ)
    → ((i : ℕ) → i < length v → vis (get_or v i 0) ≡ true → Right h (after_all h s (take i v)) (get_or v i 0)) → Replays h vis s v
right-replays h vis s [] f = tt
right-replays h vis s (x ∷ v) f =
    (f zero (omega arith), right-replays h vis (changed h s x) v (λ i l. f (suc i) (omega arith)))

-- "16 a visible answer that the replay doesn't give, at the first such event in the view": what `first_wrong` finds
abbrev pub wrong_at : History → (ℕ → Bool) → Contents → List ℕ → ℕ → Bool
wrong_at h vis s v i = vis (get_or v i 0) && not (right h (after_all h s (take i v)) (get_or v i 0))

pub wrong-found : (h : History) (vis : ℕ → Bool) (s : Contents) (v : List ℕ) (i : ℕ) → i < length v
    → ((j : ℕ) → j < i → wrong_at h vis s v j ≡ false) → wrong_at h vis s v i ≡ true → first_wrong h vis s v ≡ some (get_or v i 0)
wrong-found h vis s [] i l g e = absurd (not-suc-le-zero l)
wrong-found h vis s (x ∷ v) zero l g e = rw e refl
wrong-found h vis s (x ∷ v) (suc i) l g e =
    rw (g zero (omega arith)) (wrong-found h vis (changed h s x) v i (le_of_suc-le-suc l) (λ j m. g (suc j) (omega arith)) e)

pub wrong-nowhere : (h : History) (vis : ℕ → Bool) (s : Contents) (v : List ℕ)
    → ((j : ℕ) → j < length v → wrong_at h vis s v j ≡ false) → first_wrong h vis s v ≡ none
wrong-nowhere h vis s [] g = refl
wrong-nowhere h vis s (x ∷ v) g =
    rw (g zero (omega arith)) (wrong-nowhere h vis (changed h s x) v (λ j m. g (suc j) (omega arith)))

-- an element that is there, whatever stands for one that is not
pub any-default : {A : Type 0} (l : List A) (i : ℕ) (d e : A) → i < length l → get_or l i d ≡ get_or l i e
any-default [] i d e h = absurd (not-suc-le-zero h)
any-default (x ∷ l) zero d e h = refl
any-default (x ∷ l) (suc i) d e h = any-default l i d e (le_of_suc-le-suc h)
