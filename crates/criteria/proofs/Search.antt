-- A search through the orders of a history's events. It finds an order wherever a view explains the answers: so where it finds none, no
-- view does. Assumes nothing.
use mathlib.Core.Path.{◌≡◌, refl, sym, ap, ◌∙◌, subst}
use mathlib.Core.Bool.{Bool, true, false, not, ◌&&◌}
use mathlib.Core.List.{List, [], ◌∷◌}
use Prim.Native.Nat.{ℕ, zero, suc, ◌<◌}
use native.Mathlib.Omega.{arith}
use lib.Dec.{eqb, ltb}
use lib.ListN.{length, get_or}
use borrow.Author.Tests.{ltb-true, ltb-false, eqb-true, eqb-false, eq-eqb}
use Rattle.layout.proofs.Cases.{true-and}
use Rattle.criteria.specs.Tests.{any, more, one, count, mem}
use Rattle.criteria.specs.History.{History, size, IsView, Extends, OnlyPast, is_event, own}
use Rattle.criteria.specs.Replay.{Contents, start, changed, Replays}
use Rattle.criteria.specs.Criteria.{Explains}
use Rattle.criteria.specs.Check.{right}
use Rattle.criteria.proofs.Lists.{by-test, clash, and-true, below_suc, any_at, none_any, mem-of-count, true-or-left, all-length}
use Rattle.criteria.proofs.Orders.{Ordered, extends-ordered}
use Rattle.criteria.proofs.Replay.{right-complete}
use Rattle.criteria.proofs.Check.{false-and}

-- a view without its first event is a view of the set without it
view-tail : (P : ℕ → Bool) (x : ℕ) (v : List ℕ) → IsView P (x ∷ v) → IsView (λ f. P f && not (eqb f x)) v
unfolding IsView
view-tail P x v i e = go (eqb e x) (P e) (i e)
  where
    go : (b p : Bool) → more b (count e v) ≡ one p → count e v ≡ one (p && not b)
    go true true q = omega (arith, q)
    go true false q = absurd (omega (arith, q))
    go false true q = q
    go false false q = q

module _ (h : History) (R : ℕ → ℕ → Bool) (visible : ℕ → Bool) where
  -- The event e can be the first of the set P: it is of P, none of P comes before it, and its answer is right if it is visible.
  abbrev can_be_first : (ℕ → Bool) → Contents → ℕ → Bool
  can_be_first P s e = P e && not (any (size h) (λ f. P f && R f e)) && not (visible e && not (right h s e))

  -- Some order of k events of P extends R, and replays from s with the visible answers right: one can be the first, and the others have
  -- such an order after it.
  unfoldable pub some_order : ℕ → (ℕ → Bool) → Contents → Bool
  some_order zero P s = true
  some_order (suc k) P s = any (size h) (λ e. can_be_first P s e && some_order k (λ f. P f && not (eqb f e)) (changed h s e))

  -- a view of P that extends R and replays is found
  view-found : (P : ℕ → Bool) (s : Contents) (v : List ℕ) → ((e : ℕ) → P e ≡ true → e < size h)
      → IsView P v → Ordered R v → Replays h visible s v → some_order (length v) P s ≡ true
  unfolding some_order IsView
  view-found P s [] b i o r = refl
  view-found P s (x ∷ v) b i o r =
      any_at (size h) (λ e. can_be_first P s e && some_order (length v) (λ f. P f && not (eqb f e)) (changed h s e)) x (b x of-set)
      (true-and (true-and (true-and of-set (ap not none_before)) (ap not answer-right))
      (view-found (λ f. P f && not (eqb f x)) (changed h s x) v (λ e t. b e (and-true (P e) (not (eqb e x)) t).0) (view-tail P x v i) o.1 r.1))
    where
      in-view : (e : ℕ) → mem e (x ∷ v) ≡ P e
      in-view e = mem-of-count e (x ∷ v) (P e) (i e)

      of-set : P x ≡ true
      of-set = sym (in-view x) ∙ true-or-left (mem x v) (eq-eqb x x refl)

      none_before : any (size h) (λ f. P f && R f x) ≡ false
      none_before = none_any (size h) (λ f. P f && R f x) (λ f l. false-and (P f) (R f x) (λ t. o.0 f (in-view f ∙ t)))

      answer-right : visible x && not (right h s x) ≡ false
      answer-right = false-and (visible x) (not (right h s x)) (λ t. ap not (right-complete h s x (r.0 t)))

  -- where nothing is found, no view of all events explains the answers
  pub no-view : some_order (size h) (is_event h) (start h) ≡ false → (v : List ℕ) → Explains h R (is_event h) visible v → ⊥
  no-view n v x =
      clash
      (subst (λ (k : ℕ). some_order k (is_event h) (start h) ≡ true) (all-length (size h) v x.is_view)
      (view-found (is_event h) (start h) v (λ e t. ltb-true e (size h) t) x.is_view (extends-ordered R v x.extends) x.replays))
      n

-- b comes before a, and nothing else before anything.
abbrev pub only_before : ℕ → ℕ → ℕ → ℕ → Bool
only_before b a e f = eqb e b && eqb f a

-- strict: if no order with b before a gives process p its answers, then a is in the past of p's event b
pub in-past : (h : History) (R : ℕ → ℕ → Bool) (p a b : ℕ) → own h p b ≡ true → eqb a b ≡ false
    → some_order h (only_before b a) (own h p) (size h) (is_event h) (start h) ≡ false
    → (v : List ℕ) × Explains h R (is_event h) (own h p) v × OnlyPast R (own h p) v → R a b ≡ true
unfolding Extends OnlyPast
in-past h R p a b o d n (v, x, past) =
    by-test (R a b) (λ t. t)
    (λ f. absurd (no-view h (only_before b a) (own h p) n v record { is_view = x.is_view; extends = b-first f; replays = x.replays }))
  where
    b-first : R a b ≡ false → Extends (only_before b a) v
    b-first f i j k l t =
        let s = and-true (eqb (get_or v i 0) b) (eqb (get_or v j 0) a) t in
        let q = eqb-true (get_or v i 0) b s.0 in
        let r = eqb-true (get_or v j 0) a s.1 in
        by-test (ltb i j) (λ m. ltb-true i j m)
        (λ m. below_suc j i (let g = ltb-false i j m in omega arith)
        (λ u. clash (rw (q, r) at (past j i u k (rw q o))) f)
        (λ u. absurd (eqb-false a b d (sym r ∙ ap (λ (k : ℕ). get_or v k 0) u ∙ q))))
