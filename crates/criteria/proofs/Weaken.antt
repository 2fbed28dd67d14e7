-- The weakened certificate of an accepted one is read and accepted. Assumes nothing.
use mathlib.Core.Path.{◌≡◌, refl, sym, ap, ◌∙◌, subst}
use mathlib.Core.Logic.{◌⊎◌, inl, inr}
use mathlib.Core.Bool.{Bool, true, false, not, cond, true≢false, false≢true}
use mathlib.Core.List.{List, [], ◌∷◌, ◌++◌}
use mathlib.Core.Option.{Option, none, some}
use Prim.Native.Nat.{ℕ, suc, ◌≤◌, ◌<◌}
use native.Mathlib.Omega.{arith}
use lib.Dec.{eqb, ltb}
use lib.ListN.{length, get_or, take, length-take}
use lib.Seq.{get_or-take}
use borrow.Author.Tests.{ltb-true, ltb-false, eqb-true, eqb-false, lt-ltb, eq-eqb, not-true}
use Rattle.layout.proofs.Cases.{true-and}
use Rattle.certificate.specs.declared.record.Criterion.{Criterion}
use Rattle.certificate.specs.declared.record.Criterion.TheVariants.{Sequential, Pram, Weak, Causal, Converge, Strict}
use Rattle.certificate.specs.Criteria.{has_pasts}
use Rattle.criteria.specs.Tests.{highest, table, up_to, keep, mem, place}
use Rattle.criteria.specs.History.{History, size, process, program_order, CausalOrder, IsView, Extends, OnlyPast, is_event, past_with, only, own}
use Rattle.criteria.specs.Replay.{start, Replays}
use Rattle.criteria.specs.Certificate.{Certificate, processes, view_count, listed, order_by, Readable}
use Rattle.criteria.specs.Check.{check}
use Rattle.criteria.specs.Weaken.{precedes, up_to_in, own_part, last_of, completed, is_pair, weakened_from, weakened}
use Rattle.criteria.proofs.Lists.{by-test, clash, and-true, or-true, true-or-left, true-or-right, same_test, below_suc, highest-passes, length-table, get_or-table, count-append, count-keep, count-up_to, mem-keep, mem-up_to, mem-get_or, Once, once-of-count, count-of-mem, mem-of-count, place_in, place_out, place-get_or, mem-take, take-mem, count-take, keep-take, rising-keep}
use Rattle.criteria.proofs.Orders.{extends-ordered, ordered-extends, ordered-keep, ordered-append, rising-ordered}
use Rattle.criteria.proofs.Replay.{replays-fewer, replays-take, replays-append}
use Rattle.criteria.proofs.Check.{Good, program-parts, parts-program, program-causal, set-inside, check-good, good-check}
use Rattle.criteria.proofs.Meeting.{FewProcesses, process-listed, listed-process, views-events, built, built-accepted}

-- ---- from a sequential order

-- the part of a view up to and with e extends what the view extends
up-to-extends : (R : ℕ → ℕ → Bool) (v : List ℕ) (e : ℕ) → Extends R v → Extends R (up_to_in v e)
unfolding Extends up_to_in
up-to-extends R v e x i j p q t =
    let n = length-take (suc (place e v)) v in
    let a = get_or-take (suc (place e v)) v i 0 (omega arith) in
    let b = get_or-take (suc (place e v)) v j 0 (omega arith) in
    x i j (omega arith) (omega arith) (rw (a, b) at t)

module _ (h : History) (v : List ℕ) (iv : IsView (is_event h) v) where
  mem-view : (e : ℕ) → mem e v ≡ ltb e (size h)
  unfolding IsView
  mem-view e = mem-of-count e v (is_event h e) (iv e)

  view-mem : (e : ℕ) → e < size h → mem e v ≡ true
  view-mem e l = mem-view e ∙ lt-ltb e (size h) l

  once : Once v
  unfolding IsView
  once = once-of-count (is_event h) v iv

  before-parts : (a b : ℕ) → precedes v a b ≡ true → (mem b v ≡ true) × (place a v < place b v)
  unfolding precedes
  before-parts a b t = let p = and-true (mem b v) (ltb (place a v) (place b v)) t in (p.0, ltb-true (place a v) (place b v) p.1)

  parts-before : (a b : ℕ) → mem b v ≡ true → place a v < place b v → precedes v a b ≡ true
  unfolding precedes
  parts-before a b t l = true-and t (lt-ltb (place a v) (place b v) l)

  before-mem : (a b : ℕ) → precedes v a b ≡ true → mem a v ≡ true
  before-mem a b t =
      let p = before-parts a b t in
      let q = place_in b v p.0 in
      by-test (mem a v) (λ s. s) (λ s. let r = place_out a v s in absurd (omega arith))

  precedes-causal : Extends (program_order h) v → CausalOrder h (precedes v)
  unfolding Extends
  precedes-causal x = record {
    of_events = λ a b t.
        (ltb-true a (size h) (sym (mem-view a) ∙ before-mem a b t), ltb-true b (size h) (sym (mem-view b) ∙ (before-parts a b t).0));
    irreflexive = λ a. by-test (precedes v a a) (λ t. let p = before-parts a a t in absurd (omega arith)) (λ f. f);
    transitive = λ a b c s t.
        let p = before-parts a b s in
        let q = before-parts b c t in
        parts-before a c q.0 (omega arith);
    program = λ a b t.
        let p = program-parts h a b t in
        let la : a < size h = omega arith in
        let m = view-mem a la in
        let n = view-mem b p.1 in
        let i = place_in a v m in
        let j = place_in b v n in
        parts-before a b n
        (x (place a v) (place b v) i.0 j.0 (rw (i.1, j.1) t));
  }

  -- what stands up to e and with it
  up_to-is : (e f : ℕ) → e < size h → mem f v ≡ true → past_with (precedes v) e f ≡ ltb (place f v) (suc (place e v))
  up_to-is e f l m =
      same_test (past_with (precedes v) e f) (ltb (place f v) (suc (place e v)))
      (λ t. go (or-true (precedes v f e) (eqb f e) t))
      (λ t. let k = ltb-true (place f v) (suc (place e v)) t in
      by-test (ltb (place f v) (place e v))
      (λ s. true-or-left (eqb f e) (parts-before f e (view-mem e l) (ltb-true (place f v) (place e v) s)))
      (λ s. let n = ltb-false (place f v) (place e v) s in
      let q : place f v ≡ place e v = omega arith in
      true-or-right (precedes v f e)
      (eq-eqb f e (sym (place_in f v m).1 ∙ ap (λ (i : ℕ). get_or v i 0) q ∙ (place_in e v (view-mem e l)).1))))
    where
      go : (precedes v f e ≡ true) ⊎ (eqb f e ≡ true) → ltb (place f v) (suc (place e v)) ≡ true
      go (inl t) = let p = before-parts f e t in lt-ltb (place f v) (suc (place e v)) (omega arith)
      go (inr t) = let q : place f v ≡ place e v = ap (λ (k : ℕ). place k v) (eqb-true f e t) in lt-ltb (place f v) (suc (place e v)) (omega arith)

  up_to-mem-v : (e f : ℕ) → e < size h → past_with (precedes v) e f ≡ true → mem f v ≡ true
  up_to-mem-v e f l t = go (or-true (precedes v f e) (eqb f e) t)
    where
      go : (precedes v f e ≡ true) ⊎ (eqb f e ≡ true) → mem f v ≡ true
      go (inl s) = before-mem f e s
      go (inr s) = subst (λ (k : ℕ). mem k v ≡ true) (sym (eqb-true f e s)) (view-mem e l)

  part-is_view : (e : ℕ) → e < size h → IsView (past_with (precedes v) e) (up_to_in v e)
  unfolding IsView up_to_in
  part-is_view e l f =
      count-of-mem f (take (suc (place e v)) v) (past_with (precedes v) e f)
      (let a = count-take f (suc (place e v)) v in let b = once f in omega arith)
      (same_test (mem f (take (suc (place e v)) v)) (past_with (precedes v) e f)
      (λ t. let p = take-mem f (suc (place e v)) v t in
      up_to-is e f l p.0 ∙ lt-ltb (place f v) (suc (place e v)) p.1)
      (λ t. let m = up_to-mem-v e f l t in
      mem-take f (suc (place e v)) v m (ltb-true (place f v) (suc (place e v)) (sym (up_to-is e f l m) ∙ t))))

  whole-extends : Extends (precedes v) v
  unfolding Extends
  whole-extends i j p q t =
      let r = before-parts (get_or v i 0) (get_or v j 0) t in
      let a = place-get_or v i once p in
      let b = place-get_or v j once q in
      omega arith

  part-keep : (e : ℕ) → e < size h → keep (past_with (precedes v) e) v ≡ up_to_in v e
  unfolding up_to_in
  part-keep e l =
      keep-take (past_with (precedes v) e) v (suc (place e v))
      (λ i k. up_to-is e (get_or v i 0) l (mem-get_or v i k)
      ∙ ap (λ (j : ℕ). ltb j (suc (place e v))) (place-get_or v i once k))

module _ (h : History) (v : List ℕ) (iv : IsView (is_event h) v) (x : Extends (program_order h) v)
    (r : Replays h (λ _. true) (start h) v) where
  fewer : (vis : ℕ → Bool) → Replays h vis (start h) v
  fewer vis = replays-fewer h (λ _. true) vis (start h) v (λ e t. refl) r

  part-replays : (vis : ℕ → Bool) (e : ℕ) → Replays h vis (start h) (up_to_in v e)
  unfolding up_to_in
  part-replays vis e = replays-take h vis (start h) (suc (place e v)) v (fewer vis)

  whole : (k : ℕ) → k < length (processes h) → get_or (table (length (processes h)) (λ _. v)) k [] ≡ v
  whole k l = get_or-table (length (processes h)) (λ _. v) k [] l

  sequential-pram : Good h Pram (program_order h) (table (view_count Pram h) (λ _. v))
  sequential-pram = record {
    causal_order = program-causal h;
    is_view = λ k l. subst (IsView (is_event h)) (sym (whole k l)) iv;
    extends = λ k l. subst (Extends (program_order h)) (sym (whole k l)) x;
    only_past = λ t. absurd (false≢true t);
    replays = λ k l. subst (Replays h (own h (get_or (processes h) k 0)) (start h)) (sym (whole k l)) (fewer (own h (get_or (processes h) k 0)));
  }

  sequential-strict : Good h Strict (precedes v) (table (length (processes h)) (λ _. v))
  unfolding OnlyPast
  sequential-strict = record {
    causal_order = precedes-causal h v iv x;
    is_view = λ k l. subst (IsView (is_event h)) (sym (whole k l)) iv;
    extends = λ k l. subst (Extends (precedes v)) (sym (whole k l)) (whole-extends h v iv);
    only_past = λ t k l. subst (OnlyPast (precedes v) (own h (get_or (processes h) k 0))) (sym (whole k l))
        (λ i j p q _.
        let a = place-get_or v i (once h v iv) (omega arith) in
        let b = place-get_or v j (once h v iv) q in
        parts-before h v iv (get_or v i 0) (get_or v j 0) (mem-get_or v j q) (omega arith));
    replays = λ k l. subst (Replays h (own h (get_or (processes h) k 0)) (start h)) (sym (whole k l)) (fewer (own h (get_or (processes h) k 0)));
  }

  part_at : (k : ℕ) → k < size h → get_or (table (size h) (up_to_in v)) k [] ≡ up_to_in v k
  part_at k l = get_or-table (size h) (up_to_in v) k [] l

  sequential-causal : Good h Causal (precedes v) (table (size h) (up_to_in v))
  sequential-causal = record {
    causal_order = precedes-causal h v iv x;
    is_view = λ k l. subst (IsView (past_with (precedes v) k)) (sym (part_at k l)) (part-is_view h v iv k l);
    extends = λ k l. subst (Extends (precedes v)) (sym (part_at k l)) (up-to-extends (precedes v) v k (whole-extends h v iv));
    only_past = λ t. absurd (false≢true t);
    replays = λ k l. subst (Replays h (own h (process h k)) (start h)) (sym (part_at k l)) (part-replays (own h (process h k)) k);
  }

  sequential-converge : Good h Converge (precedes v) (v ∷ [])
  sequential-converge = record {
    causal_order = precedes-causal h v iv x;
    is_view = λ k l. subst (IsView (is_event h)) (sym (single k l)) iv;
    extends = λ k l. subst (Extends (precedes v)) (sym (single k l)) (whole-extends h v iv);
    only_past = λ t. absurd (false≢true t);
    replays = λ k l. subst (Replays h (only k) (start h)) (sym (part-keep h v iv k l)) (part-replays (only k) k);
  }
    where
      single : (k : ℕ) → k < 1 → get_or (v ∷ []) k [] ≡ v
      single k l = subst (λ (j : ℕ). get_or (v ∷ []) j [] ≡ v) (let q : 0 ≡ k = omega arith in q) refl

-- ---- from a causal or a converge certificate to weak

extends-less : (R S : ℕ → ℕ → Bool) → ((a b : ℕ) → S a b ≡ true → R a b ≡ true) → (v : List ℕ) → Extends R v → Extends S v
unfolding Extends
extends-less R S f v x i j p q t = x i j p q (f (get_or v i 0) (get_or v j 0) t)

kept-is_view : (P S : ℕ → Bool) (v : List ℕ) → ((e : ℕ) → S e ≡ true → P e ≡ true) → IsView P v → IsView S (keep S v)
unfolding IsView
kept-is_view P S v i c e =
    count-keep S e v
    ∙ by-test (S e) (λ t. rw (c e, t, i e t) refl) (λ t. rw t refl)

module _ (h : History) (R : ℕ → ℕ → Bool) (vs : List (List ℕ)) where
  pub causal-weak : Good h Causal R vs → Good h Weak R vs
  causal-weak g = record {
    causal_order = g.causal_order;
    is_view = g.is_view;
    extends = g.extends;
    only_past = λ t. absurd (false≢true t);
    replays = λ k l. replays-fewer h (own h (process h k)) (only k) (start h) (get_or vs k [])
        (λ f t. eq-eqb (process h f) (process h k) (ap (process h) (eqb-true f k t))) (g.replays k l);
  }

  pub converge-weak : Good h Converge R vs → Good h Weak R (table (size h) (λ e. keep (past_with R e) (get_or vs 0 [])))
  converge-weak g = record {
    causal_order = g.causal_order;
    is_view = λ k l. subst (IsView (past_with R k)) (sym (cut k l)) (cut-is_view k l);
    extends = λ k l. subst (Extends R) (sym (cut k l)) (ordered-extends R (keep (past_with R k) (get_or vs 0 [])) (ordered-keep R (past_with R k) (get_or vs 0 []) (extends-ordered R (get_or vs 0 []) (g.extends 0 (omega arith)))));
    only_past = λ t. absurd (false≢true t);
    replays = λ k l. subst (Replays h (only k) (start h)) (sym (cut k l)) (g.replays k l);
  }
    where
      cut : (k : ℕ) → k < size h → get_or (table (size h) (λ e. keep (past_with R e) (get_or vs 0 []))) k [] ≡ keep (past_with R k) (get_or vs 0 [])
      cut k l = get_or-table (size h) (λ e. keep (past_with R e) (get_or vs 0 [])) k [] l

      cut-is_view : (k : ℕ) → k < size h → IsView (past_with R k) (keep (past_with R k) (get_or vs 0 []))
      cut-is_view k l =
          kept-is_view (is_event h) (past_with R k) (get_or vs 0 []) (λ e t. lt-ltb e (size h) (set-inside h R g.causal_order.of_events Weak k l e t))
          (g.is_view 0 (omega arith))

-- ---- from a causal certificate to pram: the view of a process's last event, then the other events rising

completed-is_view : (n : ℕ) (P : ℕ → Bool) (v : List ℕ) → ((e : ℕ) → P e ≡ true → e < n) → IsView P v → IsView (λ f. ltb f n) (completed n v)
unfolding IsView completed
completed-is_view n P v i c f =
    rw (count-append f v (keep (λ g. not (mem g v)) (up_to n)), count-keep (λ g. not (mem g v)) f (up_to n), count-up_to f n)
    (by-test (P f)
    (λ t. rw (c f, mem-of-count f v (P f) (c f), t, lt-ltb f n (i f t)) refl)
    (λ t. rw (c f, mem-of-count f v (P f) (c f), t) (omega arith)))

-- what was added is not in the view
added : (n : ℕ) (v : List ℕ) (e : ℕ) → mem e (keep (λ f. not (mem f v)) (up_to n)) ≡ true → mem e v ≡ false
added n v e t = not-true (mem e v) (mem-keep (λ f. not (mem f v)) e (up_to n) t).0

module _ (h : History) (R : ℕ → ℕ → Bool) (o : CausalOrder h R) (e : ℕ) (v : List ℕ) (iv : IsView (past_with R e) v) where
  mem-part : (f : ℕ) → mem f v ≡ past_with R e f
  unfolding IsView
  mem-part f = mem-of-count f v (past_with R e f) (iv f)

  -- an event before one of the view is in the view
  before-part : (f g : ℕ) → R f g ≡ true → mem g v ≡ true → mem f v ≡ true
  before-part f g t m = mem-part f ∙ true-or-left (eqb f e) (go (or-true (R g e) (eqb g e) (sym (mem-part g) ∙ m)))
    where
      go : (R g e ≡ true) ⊎ (eqb g e ≡ true) → R f e ≡ true
      go (inl s) = o.transitive f g e t s
      go (inr s) = subst (λ (k : ℕ). R f k ≡ true) (eqb-true g e s) t

  completed-extends : Extends R v → Extends (program_order h) (completed (size h) v)
  unfolding completed
  completed-extends x =
      ordered-extends (program_order h) (v ++ keep (λ f. not (mem f v)) (up_to (size h)))
      (ordered-append (program_order h) v (keep (λ f. not (mem f v)) (up_to (size h)))
      (extends-ordered (program_order h) v (extends-less R (program_order h) o.program v x))
      (rising-ordered (program_order h) (λ a b t. (program-parts h a b t).0) 0 (keep (λ f. not (mem f v)) (up_to (size h)))
      (rising-keep (λ f. not (mem f v)) (size h)))
      (λ f g s m. by-test (program_order h f g)
      (λ t. clash (before-part f g (o.program f g t) m) (added (size h) v f s))
      (λ t. t)))

  completed-replays : (p : ℕ) → process h e ≡ p → e < size h → ((f : ℕ) → f < size h → process h f ≡ p → f ≤ e)
      → Replays h (own h p) (start h) v → Replays h (own h p) (start h) (completed (size h) v)
  unfolding completed
  completed-replays p q l top r =
      replays-append h (own h p) (start h) v (keep (λ f. not (mem f v)) (up_to (size h)))
      (λ f s. by-test (own h p f)
      (λ t. clash (inside f (eqb-true (process h f) p t) (mem-up_to f (size h) (mem-keep (λ f. not (mem f v)) f (up_to (size h)) s).1))
      (added (size h) v f s))
      (λ t. t))
      r
    where
      inside : (f : ℕ) → process h f ≡ p → f < size h → mem f v ≡ true
      inside f s k =
          mem-part f
          ∙ by-test (eqb f e) (λ t. true-or-right (R f e) t)
          (λ t. let u = top f k s in let d = eqb-false f e t in
          true-or-left (eqb f e) (o.program f e (parts-program h f e (omega arith) l (s ∙ sym q))))

-- the last event of a process with events
last-is : (h : History) (k : ℕ) → k < length (processes h)
    → (process h (last_of h (get_or (processes h) k 0)) ≡ get_or (processes h) k 0) × (last_of h (get_or (processes h) k 0) < size h)
    × ((f : ℕ) → f < size h → process h f ≡ get_or (processes h) k 0 → f ≤ last_of h (get_or (processes h) k 0))
unfolding last_of
last-is h k l =
    let p = get_or (processes h) k 0 in
    let x = listed-process h k l in
    let t = highest-passes (size h) (own h p) x.0 x.1 (eq-eqb (process h x.0) p x.2) in (
      eqb-true (process h (highest (size h) (own h p))) p t.0,
      t.1,
      λ f m q. (highest-passes (size h) (own h p) f m (eq-eqb (process h f) p q)).2,
    )

causal-pram : (h : History) (R : ℕ → ℕ → Bool) (vs : List (List ℕ)) → Good h Causal R vs
    → Good h Pram (program_order h) (table (length (processes h)) (λ k. completed (size h) (get_or vs (last_of h (get_or (processes h) k 0)) [])))
causal-pram h R vs g = record {
  causal_order = program-causal h;
  is_view = λ k l.
      subst (IsView (is_event h)) (sym (at k l))
      (completed-is_view (size h) (past_with R (last k)) (view k) (set-inside h R o.of_events Causal (last k) (last-is h k l).1)
      (g.is_view (last k) (last-is h k l).1));
  extends = λ k l.
      subst (Extends (program_order h)) (sym (at k l))
      (completed-extends h R o (last k) (view k) (g.is_view (last k) (last-is h k l).1) (g.extends (last k) (last-is h k l).1));
  only_past = λ t. absurd (false≢true t);
  replays = λ k l.
      let z = last-is h k l in
      subst (Replays h (own h (proc k)) (start h)) (sym (at k l))
      (completed-replays h R o (last k) (view k) (g.is_view (last k) z.1) (proc k) z.0 z.1 z.2
      (subst (λ (p : ℕ). Replays h (own h p) (start h) (view k)) z.0 (g.replays (last k) z.1)));
}
  where
    o : CausalOrder h R
    o = g.causal_order

    proc : ℕ → ℕ
    proc k = get_or (processes h) k 0

    last : ℕ → ℕ
    last k = last_of h (proc k)

    view : ℕ → List ℕ
    view k = get_or vs (last k) []

    at : (k : ℕ) → k < length (processes h)
        → get_or (table (length (processes h)) (λ k. completed (size h) (get_or vs (last_of h (get_or (processes h) k 0)) []))) k [] ≡ completed (size h) (view k)
    at k l = get_or-table (length (processes h)) (λ k. completed (size h) (get_or vs (last_of h (get_or (processes h) k 0)) [])) k [] l

-- ---- from strict

strict-pram : (h : History) (R : ℕ → ℕ → Bool) (vs : List (List ℕ)) → Good h Strict R vs → Good h Pram (program_order h) vs
strict-pram h R vs g = record {
  causal_order = program-causal h;
  is_view = g.is_view;
  extends = λ k l. extends-less R (program_order h) g.causal_order.program (get_or vs k []) (g.extends k l);
  only_past = λ t. absurd (false≢true t);
  replays = g.replays;
}

-- a view of all events in which only its past stands before e: its part up to e is past(e) and e
module _ (h : History) (R : ℕ → ℕ → Bool) (v : List ℕ) (iv : IsView (is_event h) v) (x : Extends R v) (e : ℕ) (l : e < size h)
    (top : (i : ℕ) → i < place e v → R (get_or v i 0) e ≡ true) (o : CausalOrder h R) where
  own-is_view : IsView (past_with R e) (up_to_in v e)
  unfolding IsView up_to_in Extends
  own-is_view f =
      count-of-mem f (take (suc (place e v)) v) (past_with R e f)
      (let a = count-take f (suc (place e v)) v in let b = once h v iv f in omega arith)
      (same_test (mem f (take (suc (place e v)) v)) (past_with R e f)
      (λ t. let p = take-mem f (suc (place e v)) v t in
      let i = place_in f v p.0 in
      below_suc (place f v) (place e v) p.1
      (λ k. true-or-left (eqb f e) (subst (λ (g : ℕ). R g e ≡ true) i.1 (top (place f v) k)))
      (λ q. true-or-right (R f e) (eq-eqb f e (sym i.1 ∙ ap (λ (i : ℕ). get_or v i 0) q ∙ j.1))))
      (λ t. go (or-true (R f e) (eqb f e) t)))
    where
      j : (place e v < length v) × (get_or v (place e v) 0 ≡ e)
      j = place_in e v (view-mem h v iv e l)

      go : (R f e ≡ true) ⊎ (eqb f e ≡ true) → mem f (take (suc (place e v)) v) ≡ true
      go (inl t) =
          let m = view-mem h v iv f (o.of_events f e t).0 in
          let i = place_in f v m in
          let k = x (place f v) (place e v) i.0 j.0 (rw (i.1, j.1) t) in
          mem-take f (suc (place e v)) v m (omega arith)
      go (inr t) =
          let q = eqb-true f e t in
          let r : place f v ≡ place e v = ap (λ (k : ℕ). place k v) q in
          mem-take f (suc (place e v)) v (subst (λ (k : ℕ). mem k v ≡ true) (sym q) (view-mem h v iv e l)) (omega arith)

pub strict-causal : (h : History) (R : ℕ → ℕ → Bool) (vs : List (List ℕ)) → FewProcesses h → Good h Strict R vs
    → Good h Causal R (table (size h) (own_part h vs))
unfolding own_part OnlyPast up_to_in
strict-causal h R vs f g = record {
  causal_order = g.causal_order;
  is_view = λ e l. subst (IsView (past_with R e)) (sym (at e l))
      (own-is_view h R (view e) (g.is_view (slot e) (in-range e l)) (g.extends (slot e) (in-range e l)) e l (only-past e l) g.causal_order);
  extends = λ e l. subst (Extends R) (sym (at e l))
      (up-to-extends R (view e) e (g.extends (slot e) (in-range e l)));
  only_past = λ t. absurd (false≢true t);
  replays = λ e l. subst (Replays h (own h (process h e)) (start h)) (sym (at e l)) (part e l);
}
  where
    slot : ℕ → ℕ
    slot e = place (process h e) (processes h)

    view : ℕ → List ℕ
    view e = get_or vs (slot e) []

    in-range : (e : ℕ) → e < size h → slot e < length (processes h)
    in-range e l = (place_in (process h e) (processes h) (process-listed h e f l)).0

    slot_is : (e : ℕ) → e < size h → get_or (processes h) (slot e) 0 ≡ process h e
    slot_is e l = (place_in (process h e) (processes h) (process-listed h e f l)).1

    at : (e : ℕ) → e < size h → get_or (table (size h) (λ e. up_to_in (get_or vs (place (process h e) (processes h)) []) e)) e [] ≡ up_to_in (view e) e
    at e l = get_or-table (size h) (λ e. up_to_in (get_or vs (place (process h e) (processes h)) []) e) e [] l

    only-past : (e : ℕ) → e < size h → (i : ℕ) → i < place e (view e) → R (get_or (view e) i 0) e ≡ true
    only-past e l i k =
        let j = place_in e (view e) (view-mem h (view e) (g.is_view (slot e) (in-range e l)) e l) in
        subst (λ (b : ℕ). R (get_or (view e) i 0) b ≡ true) j.1
        (g.only_past refl (slot e) (in-range e l) i (place e (view e)) k j.0
        (eq-eqb (process h (get_or (view e) (place e (view e)) 0)) (get_or (processes h) (slot e) 0) (ap (process h) j.1 ∙ sym (slot_is e l))))

    part : (e : ℕ) → (l : e < size h) → Replays h (own h (process h e)) (start h) (up_to_in (view e) e)
    part e l =
        replays-take h (own h (process h e)) (start h) (suc (place e (view e))) (view e)
        (subst (λ (p : ℕ). Replays h (own h p) (start h) (view e)) (slot_is e l) (g.replays (slot e) (in-range e l)))

-- ---- every pair

pub record Accepted (h : History) (w : Criterion) (c : Certificate) : Type 0 where
  pub named : c.criterion ≡ w
  pub readable : Readable h c
  pub passes : check h c ≡ none

AcceptedIf : History → Criterion → Option Certificate → Type 0
AcceptedIf h w none = Unit {0}
AcceptedIf h w (some c) = Accepted h w c

pub from-built : (h : History) (w : Criterion) (R : ℕ → ℕ → Bool) (vs : List (List ℕ)) → length vs ≡ view_count w h → (has_pasts w ≡ false → R ≡ program_order h)
    → Good h w R vs → Accepted h w (built h w R vs)
from-built h w R vs q o g =
    let a = built-accepted h w R vs q o g in record { named = refl; readable = a.0; passes = a.1 }

-- the pasts are kept, and the views are new
kept-pasts : (h : History) (c : Certificate) (w : Criterion) → has_pasts c.criterion ≡ true → has_pasts w ≡ true → Readable h c
    → (vs : List (List ℕ)) → length vs ≡ view_count w h → Good h w (listed c.pasts) vs
    → Accepted h w record { criterion = w; pasts = c.pasts; views = vs }
kept-pasts h c w s t rd vs q g = record {
  named = refl;
  readable = record {
    pasts_listed = rd.pasts_listed ∙ ap (λ (b : Bool). cond b (size h) 0) (s ∙ sym t);
    views_listed = q;
    past = rd.past;
    view = views-events h w (listed c.pasts) vs q g;
    rising = rd.rising;
  };
  passes =
      good-check h record { criterion = w; pasts = c.pasts; views = vs }
      (subst (λ (b : Bool). Good h w (order_by b h c.pasts) vs) (sym t) g);
}

weaken-at : (k w : Criterion) (h : History) (ps vs : List (List ℕ)) → FewProcesses h
    → Readable h record { criterion = k; pasts = ps; views = vs }
    → check h record { criterion = k; pasts = ps; views = vs } ≡ none
    → AcceptedIf h w (weakened_from k w h record { criterion = k; pasts = ps; views = vs })
unfolding AcceptedIf
weaken-at Sequential Sequential h ps vs f rd e = record { named = refl; readable = rd; passes = e }
weaken-at Sequential Pram h ps vs f rd e =
    let g = check-good h record { criterion = Sequential; pasts = ps; views = vs } rd e in
    let v = get_or vs 0 [] in
    from-built h Pram (program_order h) (table (length (processes h)) (λ _. v)) (length-table (length (processes h)) (λ _. v)) (λ _. refl)
    (sequential-pram h v (g.is_view 0 (omega arith)) (g.extends 0 (omega arith)) (g.replays 0 (omega arith)))
weaken-at Sequential Weak h ps vs f rd e =
    let g = check-good h record { criterion = Sequential; pasts = ps; views = vs } rd e in
    let v = get_or vs 0 [] in
    from-built h Weak (precedes v) (table (size h) (up_to_in v)) (length-table (size h) (up_to_in v)) (λ t. absurd (true≢false t))
    (causal-weak h (precedes v) (table (size h) (up_to_in v))
    (sequential-causal h v (g.is_view 0 (omega arith)) (g.extends 0 (omega arith)) (g.replays 0 (omega arith))))
weaken-at Sequential Causal h ps vs f rd e =
    let g = check-good h record { criterion = Sequential; pasts = ps; views = vs } rd e in
    let v = get_or vs 0 [] in
    from-built h Causal (precedes v) (table (size h) (up_to_in v)) (length-table (size h) (up_to_in v)) (λ t. absurd (true≢false t))
    (sequential-causal h v (g.is_view 0 (omega arith)) (g.extends 0 (omega arith)) (g.replays 0 (omega arith)))
weaken-at Sequential Converge h ps vs f rd e =
    let g = check-good h record { criterion = Sequential; pasts = ps; views = vs } rd e in
    let v = get_or vs 0 [] in
    from-built h Converge (precedes v) (v ∷ []) refl (λ t. absurd (true≢false t))
    (sequential-converge h v (g.is_view 0 (omega arith)) (g.extends 0 (omega arith)) (g.replays 0 (omega arith)))
weaken-at Sequential Strict h ps vs f rd e =
    let g = check-good h record { criterion = Sequential; pasts = ps; views = vs } rd e in
    let v = get_or vs 0 [] in
    from-built h Strict (precedes v) (table (length (processes h)) (λ _. v)) (length-table (length (processes h)) (λ _. v)) (λ t. absurd (true≢false t))
    (sequential-strict h v (g.is_view 0 (omega arith)) (g.extends 0 (omega arith)) (g.replays 0 (omega arith)))
weaken-at Pram Sequential h ps vs f rd e = tt
weaken-at Pram Pram h ps vs f rd e = record { named = refl; readable = rd; passes = e }
weaken-at Pram Weak h ps vs f rd e = tt
weaken-at Pram Causal h ps vs f rd e = tt
weaken-at Pram Converge h ps vs f rd e = tt
weaken-at Pram Strict h ps vs f rd e = tt
weaken-at Weak Sequential h ps vs f rd e = tt
weaken-at Weak Pram h ps vs f rd e = tt
weaken-at Weak Weak h ps vs f rd e = record { named = refl; readable = rd; passes = e }
weaken-at Weak Causal h ps vs f rd e = tt
weaken-at Weak Converge h ps vs f rd e = tt
weaken-at Weak Strict h ps vs f rd e = tt
weaken-at Causal Sequential h ps vs f rd e = tt
weaken-at Causal Pram h ps vs f rd e =
    let c : Certificate = record { criterion = Causal; pasts = ps; views = vs } in
    let g = check-good h c rd e in
    let u : ℕ → List ℕ = λ k. completed (size h) (get_or vs (last_of h (get_or (processes h) k 0)) []) in
    from-built h Pram (program_order h) (table (length (processes h)) u) (length-table (length (processes h)) u) (λ _. refl)
    (causal-pram h (listed ps) vs g)
weaken-at Causal Weak h ps vs f rd e =
    let c : Certificate = record { criterion = Causal; pasts = ps; views = vs } in
    let g = check-good h c rd e in
    kept-pasts h c Weak refl refl rd vs rd.views_listed (causal-weak h (listed ps) vs g)
weaken-at Causal Causal h ps vs f rd e = record { named = refl; readable = rd; passes = e }
weaken-at Causal Converge h ps vs f rd e = tt
weaken-at Causal Strict h ps vs f rd e = tt
weaken-at Converge Sequential h ps vs f rd e = tt
weaken-at Converge Pram h ps vs f rd e = tt
weaken-at Converge Weak h ps vs f rd e =
    let c : Certificate = record { criterion = Converge; pasts = ps; views = vs } in
    let g = check-good h c rd e in
    kept-pasts h c Weak refl refl rd (table (size h) (λ e. keep (past_with (listed ps) e) (get_or vs 0 [])))
    (length-table (size h) (λ e. keep (past_with (listed ps) e) (get_or vs 0 []))) (converge-weak h (listed ps) vs g)
weaken-at Converge Causal h ps vs f rd e = tt
weaken-at Converge Converge h ps vs f rd e = record { named = refl; readable = rd; passes = e }
weaken-at Converge Strict h ps vs f rd e = tt
weaken-at Strict Sequential h ps vs f rd e = tt
weaken-at Strict Pram h ps vs f rd e =
    let g = check-good h record { criterion = Strict; pasts = ps; views = vs } rd e in
    from-built h Pram (program_order h) vs rd.views_listed (λ _. refl) (strict-pram h (listed ps) vs g)
weaken-at Strict Weak h ps vs f rd e =
    let c : Certificate = record { criterion = Strict; pasts = ps; views = vs } in
    let g = check-good h c rd e in
    kept-pasts h c Weak refl refl rd (table (size h) (own_part h vs)) (length-table (size h) (own_part h vs))
    (causal-weak h (listed ps) (table (size h) (own_part h vs)) (strict-causal h (listed ps) vs f g))
weaken-at Strict Causal h ps vs f rd e =
    let c : Certificate = record { criterion = Strict; pasts = ps; views = vs } in
    let g = check-good h c rd e in
    kept-pasts h c Causal refl refl rd (table (size h) (own_part h vs)) (length-table (size h) (own_part h vs)) (strict-causal h (listed ps) vs f g)
weaken-at Strict Converge h ps vs f rd e = tt
weaken-at Strict Strict h ps vs f rd e = record { named = refl; readable = rd; passes = e }

pub weaken-accepted : (h : History) (w : Criterion) (c d : Certificate) → FewProcesses h → Readable h c → check h c ≡ none → weakened w h c ≡ some d → Accepted h w d
unfolding weakened AcceptedIf
weaken-accepted h w c d f rd e q = subst (AcceptedIf h w) q (weaken-at c.criterion w h c.pasts c.views f rd e)

-- ---- what is a pair has a weakened certificate, and what is not has none
abbrev pub is_some : Option Certificate → Bool
is_some none = false
is_some (some d) = true

pair-from : (v w : Criterion) (h : History) (c : Certificate) → is_some (weakened_from v w h c) ≡ is_pair v w
pair-from Pram Pram h c = refl
pair-from Pram Weak h c = refl
pair-from Pram Causal h c = refl
pair-from Pram Converge h c = refl
pair-from Pram Sequential h c = refl
pair-from Pram Strict h c = refl
pair-from Weak Pram h c = refl
pair-from Weak Weak h c = refl
pair-from Weak Causal h c = refl
pair-from Weak Converge h c = refl
pair-from Weak Sequential h c = refl
pair-from Weak Strict h c = refl
pair-from Causal Pram h c = refl
pair-from Causal Weak h c = refl
pair-from Causal Causal h c = refl
pair-from Causal Converge h c = refl
pair-from Causal Sequential h c = refl
pair-from Causal Strict h c = refl
pair-from Converge Pram h c = refl
pair-from Converge Weak h c = refl
pair-from Converge Causal h c = refl
pair-from Converge Converge h c = refl
pair-from Converge Sequential h c = refl
pair-from Converge Strict h c = refl
pair-from Sequential Pram h c = refl
pair-from Sequential Weak h c = refl
pair-from Sequential Causal h c = refl
pair-from Sequential Converge h c = refl
pair-from Sequential Sequential h c = refl
pair-from Sequential Strict h c = refl
pair-from Strict Pram h c = refl
pair-from Strict Weak h c = refl
pair-from Strict Causal h c = refl
pair-from Strict Converge h c = refl
pair-from Strict Sequential h c = refl
pair-from Strict Strict h c = refl

pub pair-weakened : (w : Criterion) (h : History) (c : Certificate) → is_some (weakened w h c) ≡ is_pair c.criterion w
unfolding weakened
pair-weakened w h c = pair-from c.criterion w h c

-- each to itself: the same certificate
pub weakened-itself : (w : Criterion) (h : History) (c : Certificate) → weakened_from w w h c ≡ some c
weakened-itself Pram h c = refl
weakened-itself Weak h c = refl
weakened-itself Causal h c = refl
weakened-itself Converge h c = refl
weakened-itself Sequential h c = refl
weakened-itself Strict h c = refl
