-- The event that the check of a certificate carries is an event of the history. Assumes nothing.
use Prim.Native.Nat.{ℕ, zero, suc, ◌<◌}
use native.Mathlib.Omega.{arith}
use mathlib.Core.Path.{◌≡◌, refl}
use mathlib.Core.Bool.{Bool, true, false, cond, not, ◌&&◌}
use mathlib.Core.List.{List, [], ◌∷◌}
use mathlib.Core.Option.{Option, none, some}
use lib.ListN.{get_or}
use lib.Dec.{eqb}
use borrow.Author.Tests.{eq-eqb}
use Rattle.certificate.specs.declared.record.Criterion.{Criterion}
use Rattle.certificate.specs.declared.record.Criterion.TheVariants.{Pram, Weak, Causal, Converge, Sequential, Strict}
use Rattle.certificate.specs.Criteria.{has_pasts}
use Rattle.criteria.specs.Tests.{or, found_if, lowest, mem}
use Rattle.criteria.specs.History.{History, size, past_with, own}
use Rattle.criteria.specs.Replay.{Contents, start, changed}
use Rattle.criteria.specs.Certificate.{Certificate, past_count, view_count, view_number, view_set, strict_count, replay_count, replayed, visible, order, Readable}
use Rattle.criteria.specs.Check.{Fault, fault11, fault12, fault13, fault14, fault15, fault16, fault20, answer_of, lacks_own, lacks_past, not_its_set, against, outside_past, right, first_wrong, map_fault, find11, find12, find13, find14, find15, find16, find20, check}
use Rattle.criteria.proofs.Lists.{true-or-left, true-or-right, mem-keep}

-- ---- what holds of all that may be found holds of what is found
module _ {A : Type 0} (P : Option A → Type 0) where
  or-holds : (a b : Option A) → P a → P b → P (or a b)
  or-holds none b p q = q
  or-holds (some x) b p q = p

  lowest-holds : P none → (n : ℕ) (f : ℕ → Option A) → ((k : ℕ) → k < n → P (f k)) → P (lowest n f)
  lowest-holds z zero f g = z
  lowest-holds z (suc n) f g = or-holds (lowest n f) (f n) (lowest-holds z n f (λ k h. g k (omega arith))) (g n (omega arith))

  flag-holds : P none → (b : Bool) (a : A) → P (some a) → P (found_if b a)
  flag-holds z true a p = p
  flag-holds z false a p = z

-- an event below n, if there is one
abbrev pub Below : ℕ → Option ℕ → Type 0
Below n none = Unit {0}
Below n (some e) = e < n

abbrev Carried : ℕ → Option Fault → Type 0
Carried n x = Below n (answer_of x).event

module _ (h : History) (c : Certificate) (r : Readable h c) where
  -- ---- 11 to 13 are looked for at the events that have a past
  past-event : (b : Bool) (k : ℕ) → k < cond b (size h) 0 → k < size h
  past-event true k l = l
  past-event false k l = absurd (omega arith)

  at-event : (F : ℕ → Fault) → ((e : ℕ) → e < size h → Carried (size h) (some (F e))) → (t : ℕ → Bool)
      → Carried (size h) (lowest (past_count c.criterion h) (λ e. found_if (t e) (F e)))
  at-event F p t =
      lowest-holds (Carried (size h)) tt (past_count c.criterion h) (λ e. found_if (t e) (F e))
      (λ e l. flag-holds (Carried (size h)) tt (t e) (F e) (p e (past-event (has_pasts c.criterion) e l)))

  -- ---- 14, 15 and 20 carry none
  at-view : (F : ℕ → Fault) → ((v : ℕ) → Carried (size h) (some (F v))) → (t : ℕ → Bool) (number : ℕ → ℕ) (m : ℕ)
      → Carried (size h) (lowest m (λ k. found_if (t k) (F (number k))))
  at-view F p t number m =
      lowest-holds (Carried (size h)) tt m (λ k. found_if (t k) (F (number k)))
      (λ k l. flag-holds (Carried (size h)) tt (t k) (F (number k)) (p (number k)))

  -- ---- 16 carries an event of a view
  first-in : (vis : ℕ → Bool) (s : Contents) (l : List ℕ) → ((e : ℕ) → mem e l ≡ true → e < size h) → Below (size h) (first_wrong h vis s l)
  first-in vis s [] g = tt
  first-in vis s (e ∷ es) g =
      or-holds (Below (size h)) (found_if (vis e && not (right h s e)) e) (first_wrong h vis (changed h s e) es)
      (flag-holds (Below (size h)) tt (vis e && not (right h s e)) e (g e (true-or-left (mem e es) (eq-eqb e e refl))))
      (first-in vis (changed h s e) es (λ f t. g f (true-or-right (eqb f e) t)))

  with-view : (v : ℕ) (o : Option ℕ) → Below (size h) o → Carried (size h) (map_fault (fault16 v) o)
  with-view v none b = tt
  with-view v (some e) b = b

  replayed-in : (w : Criterion) (k e : ℕ) → mem e (replayed w (order h c) c.views k) ≡ true → e < size h
  replayed-in Pram k e t = (r.view k).0 e t
  replayed-in Weak k e t = (r.view k).0 e t
  replayed-in Causal k e t = (r.view k).0 e t
  replayed-in Converge k e t = (r.view 0).0 e (mem-keep (past_with (order h c) k) e (get_or c.views 0 []) t).1
  replayed-in Sequential k e t = (r.view k).0 e t
  replayed-in Strict k e t = (r.view k).0 e t

  at-replay : (w : Criterion) → Carried (size h) (find16 w h (order h c) c.views)
  at-replay w =
      lowest-holds (Carried (size h)) tt (replay_count w h)
      (λ k. map_fault (fault16 (view_number w h k)) (first_wrong h (visible w h k) (start h) (replayed w (order h c) c.views k)))
      (λ k l. with-view (view_number w h k) (first_wrong h (visible w h k) (start h) (replayed w (order h c) c.views k))
      (first-in (visible w h k) (start h) (replayed w (order h c) c.views k) (replayed-in w k)))

  -- the event of the answer is an event of the history
  pub event-below : Below (size h) (answer_of (check h c)).event
  unfolding check
  event-below =
      let among = past_count c.criterion h in
      let w = c.criterion in
      let R = order h c in
      let P = Carried (size h) in
      or-holds P (find11 h R among) _ (at-event fault11 (λ e l. l) (lacks_own h R))
      (or-holds P (find12 R among) _ (at-event fault12 (λ e l. l) (λ e. R e e))
      (or-holds P (find13 h R among) _ (at-event fault13 (λ e l. l) (lacks_past (size h) R))
      (or-holds P (find14 w h R c.views) _
      (at-view fault14 (λ v. tt) (λ k. not_its_set (size h) (view_set w h R k) (get_or c.views k [])) (view_number w h) (view_count w h))
      (or-holds P (find15 w h R c.views) _
      (at-view fault15 (λ v. tt) (λ k. against R (get_or c.views k [])) (view_number w h) (view_count w h))
      (or-holds P (find20 w h R c.views) _
      (at-view fault20 (λ v. tt) (λ k. outside_past R (own h (view_number w h k)) (get_or c.views k [])) (view_number w h) (strict_count w h))
      (at-replay w))))))
