-- Laws of replay: the first wrong answer, fewer visible answers, a part of a view, events that nobody sees. They never look into an object.
-- Assumes nothing.
use mathlib.Core.Path.{◌≡◌, refl, subst}
use mathlib.Core.Bool.{Bool, true, false, not, ◌&&◌}
use mathlib.Core.List.{List, [], ◌∷◌, ◌++◌}
use mathlib.Core.Option.{Option, none, some}
use Prim.Native.Nat.{ℕ, zero, suc}
use lib.Dec.{eqb}
use lib.ListN.{take}
use borrow.Author.Tests.{eq-eqb, not-false}
use Rattle.criteria.specs.Tests.{found_if, mem}
use Rattle.criteria.specs.History.{History, event}
use Rattle.criteria.specs.Replay.{Contents, answered, changed, Fits, Right, Replays}
use Rattle.criteria.specs.Check.{fits, right, first_wrong}
use Rattle.criteria.proofs.Lists.{by-test, clash, or-none, flag-none, same-list, list_same, true-or-left, true-or-right}

pub right-sound : (h : History) (s : Contents) (e : ℕ) → right h s e ≡ true → Right h s e
unfolding right Right
right-sound h s e t = go (event h e).answer (answered h s e) t
  where
    go : (r : Option (List ℕ)) (a : List ℕ) → fits r a ≡ true → Fits r a
    go none a t = tt
    go (some r) a t = same-list r a t

pub right-complete : (h : History) (s : Contents) (e : ℕ) → Right h s e → right h s e ≡ true
unfolding right Right
right-complete h s e q = go (event h e).answer (answered h s e) q
  where
    go : (r : Option (List ℕ)) (a : List ℕ) → Fits r a → fits r a ≡ true
    go none a q = refl
    go (some r) a q = rw q (list_same a)

module _ (h : History) where
  pub none-wrong : (vis : ℕ → Bool) (s : Contents) (v : List ℕ) → first_wrong h vis s v ≡ none → Replays h vis s v
  none-wrong vis s [] e = tt
  none-wrong vis s (x ∷ v) e =
      let r = or-none (found_if (vis x && not (right h s x)) x) (first_wrong h vis (changed h s x) v) e in (
        λ t. right-sound h s x (not-false (right h s x) (subst (λ (b : Bool). b && not (right h s x) ≡ false) t (flag-none (vis x && not (right h s x)) x r.0))),
        none-wrong vis (changed h s x) v r.1,
      )

  pub wrong-none : (vis : ℕ → Bool) (s : Contents) (v : List ℕ) → Replays h vis s v → first_wrong h vis s v ≡ none
  wrong-none vis s [] r = refl
  wrong-none vis s (x ∷ v) r =
      by-test (vis x)
      (λ t. rw (t, right-complete h s x (r.0 t)) (wrong-none vis (changed h s x) v r.1))
      (λ t. rw t (wrong-none vis (changed h s x) v r.1))

  pub replays-fewer : (vis vis' : ℕ → Bool) (s : Contents) (v : List ℕ) → ((e : ℕ) → vis' e ≡ true → vis e ≡ true)
      → Replays h vis s v → Replays h vis' s v
  replays-fewer vis vis' s [] f r = tt
  replays-fewer vis vis' s (x ∷ v) f r = (λ t. r.0 (f x t), replays-fewer vis vis' (changed h s x) v f r.1)

  pub replays-take : (vis : ℕ → Bool) (s : Contents) (k : ℕ) (v : List ℕ) → Replays h vis s v → Replays h vis s (take k v)
  replays-take vis s zero v r = tt
  replays-take vis s (suc k) [] r = tt
  replays-take vis s (suc k) (x ∷ v) r = (r.0, replays-take vis (changed h s x) k v r.1)

  replays-unseen : (vis : ℕ → Bool) (s : Contents) (v : List ℕ) → ((e : ℕ) → mem e v ≡ true → vis e ≡ false) → Replays h vis s v
  replays-unseen vis s [] f = tt
  replays-unseen vis s (x ∷ v) f = (
    λ t. clash t (f x (true-or-left (mem x v) (eq-eqb x x refl))),
    replays-unseen vis (changed h s x) v (λ e t. f e (true-or-right (eqb e x) t)),
  )

  pub replays-append : (vis : ℕ → Bool) (s : Contents) (v w : List ℕ) → ((e : ℕ) → mem e w ≡ true → vis e ≡ false)
      → Replays h vis s v → Replays h vis s (v ++ w)
  replays-append vis s [] w f r = replays-unseen vis s w f
  replays-append vis s (x ∷ v) w f r = (r.0, replays-append vis (changed h s x) v w f r.1)
