-- A history with an accepted certificate meets the certificate's criterion, and one that meets a criterion has an accepted certificate of it.
-- Assumes nothing.
use mathlib.Core.Path.{◌≡◌, refl, sym, ap, ◌∙◌, subst, fun_ext}
use mathlib.Core.Logic.{◌↔◌}
use mathlib.Core.Bool.{Bool, true, false, cond, false≢true, true≢false}
use mathlib.Core.List.{List, [], ◌∷◌, ◌++◌}
use mathlib.Core.Option.{none}
use Prim.Native.Nat.{ℕ, zero, suc, ◌≤◌, ◌<◌}
use native.Mathlib.Nat.{not-suc-le-zero}
use native.Mathlib.Omega.{arith}
use lib.Dec.{eqb, ltb}
use lib.ListN.{length, get_or, length-append, get_or-append, get_or-eq_default}
use lib.Seq.{get_or_at}
use borrow.Author.Tests.{ltb-true, ltb-false, eqb-true, eq-eqb}
use Rattle.certificate.specs.declared.record.Criterion.{Criterion}
use Rattle.certificate.specs.declared.record.Criterion.TheVariants.{Sequential, Pram, Weak, Causal, Converge, Strict}
use Rattle.certificate.specs.Criteria.{has_pasts}
use Rattle.criteria.specs.Tests.{table, up_to, keep, one, mem, place, Rising}
use Rattle.criteria.specs.History.{History, size, process, program_order, IsView, Extends, OnlyPast, is_event, past_with, only, own}
use Rattle.criteria.specs.Replay.{start, Replays}
use Rattle.criteria.specs.Criteria.{Explains, HasEvents, MeetsSequential, MeetsPram, MeetsWeak, MeetsCausal, MeetsConverge, MeetsStrict, Meets}
use Rattle.criteria.specs.Certificate.{Certificate, active, processes, view_count, view_set, listed, order_by, order, EventsOf, Readable}
use Rattle.criteria.specs.Check.{check}
use Rattle.criteria.specs.Weaken.{pasts_of}
use Rattle.criteria.proofs.Lists.{by-test, same_test, below_suc, any_at, any_some, length-table, get_or-table, get_or-table-out, count-keep, count-up_to, mem-keep, keep-mem, mem-up_to, up_to-mem, mem-get_or, once-of-count, mem-of-count, length-once, place_in, rising-keep}
use Rattle.criteria.proofs.Check.{Good, OfEvents, program-causal, set-inside, check-good, good-check}

-- ---- processes with events

abbrev pub FewProcesses : History → Type 0
FewProcesses h = (e : ℕ) → e < size h → process h e < 8

pub process-listed : (h : History) (e : ℕ) → FewProcesses h → e < size h → mem (process h e) (processes h) ≡ true
unfolding processes
process-listed h e f l =
    keep-mem (active h) (process h e) (up_to 8)
    (any_at (size h) (own h (process h e)) e l (eq-eqb (process h e) (process h e) refl)) (up_to-mem (process h e) 8 (f e l))

pub listed-process : (h : History) (k : ℕ) → k < length (processes h) → HasEvents h (get_or (processes h) k 0)
unfolding processes
listed-process h k l =
    let p = get_or (processes h) k 0 in
    let m = mem-keep (active h) p (up_to 8) (mem-get_or (processes h) k l) in
    let s = any_some (size h) (own h p) m.0 in
    (s.0, s.1, eqb-true (process h s.0) p s.2)

-- ---- soundness

abbrev pub OwnOrder : History → Criterion → (ℕ → ℕ → Bool) → Type 0
OwnOrder h w R = has_pasts w ≡ false → R ≡ program_order h

pub good-meets : (h : History) (w : Criterion) (R : ℕ → ℕ → Bool) (vs : List (List ℕ)) → FewProcesses h → OwnOrder h w R → Good h w R vs → Meets w h
unfolding MeetsSequential MeetsPram MeetsWeak MeetsCausal MeetsConverge MeetsStrict
good-meets h Sequential R vs f o g = (
  get_or vs 0 [],
  record {
    is_view = g.is_view 0 (omega arith);
    extends = subst (λ (S : ℕ → ℕ → Bool). Extends S (get_or vs 0 [])) (o refl) (g.extends 0 (omega arith));
    replays = g.replays 0 (omega arith);
  },
)
good-meets h Pram R vs f o g = λ p x.
    let k = place p (processes h) in
    let l = place_in p (processes h) (subst (λ (q : ℕ). mem q (processes h) ≡ true) x.2 (process-listed h x.0 f x.1)) in (
      get_or vs k [],
      record {
        is_view = g.is_view k l.0;
        extends = subst (λ (S : ℕ → ℕ → Bool). Extends S (get_or vs k [])) (o refl) (g.extends k l.0);
        replays = subst (λ (q : ℕ). Replays h (own h q) (start h) (get_or vs k [])) l.1 (g.replays k l.0);
      },
    )
good-meets h Weak R vs f o g =
    (R, g.causal_order, λ e l. (get_or vs e [], record { is_view = g.is_view e l; extends = g.extends e l; replays = g.replays e l }))
good-meets h Causal R vs f o g =
    (R, g.causal_order, λ e l. (get_or vs e [], record { is_view = g.is_view e l; extends = g.extends e l; replays = g.replays e l }))
good-meets h Converge R vs f o g =
    (R, g.causal_order, (get_or vs 0 [], g.is_view 0 (omega arith), g.extends 0 (omega arith), g.replays))
good-meets h Strict R vs f o g = (
  R,
  g.causal_order,
  λ p x.
      let k = place p (processes h) in
      let l = place_in p (processes h) (subst (λ (q : ℕ). mem q (processes h) ≡ true) x.2 (process-listed h x.0 f x.1)) in (
        get_or vs k [],
        record {
          is_view = g.is_view k l.0;
          extends = g.extends k l.0;
          replays = subst (λ (q : ℕ). Replays h (own h q) (start h) (get_or vs k [])) l.1 (g.replays k l.0);
        },
        subst (λ (q : ℕ). OnlyPast R (own h q) (get_or vs k [])) l.1 (g.only_past refl k l.0),
      ),
)

own-order : (h : History) (b : Bool) (ps : List (List ℕ)) → b ≡ false → order_by b h ps ≡ program_order h
own-order h true ps e = absurd (true≢false e)
own-order h false ps e = refl

pub sound : (h : History) (c : Certificate) → FewProcesses h → Readable h c → check h c ≡ none → Meets c.criterion h
sound h c f r e =
    good-meets h c.criterion (order h c) c.views f (own-order h (has_pasts c.criterion) c.pasts) (check-good h c r e)

-- ---- completeness: the views

-- a list of choices
choose : (n : ℕ) (B : ℕ → List ℕ → Type 0) → ((k : ℕ) → k < n → (v : List ℕ) × B k v)
    → (vs : List (List ℕ)) × (length vs ≡ n) × ((k : ℕ) → k < n → B k (get_or vs k []))
choose zero B f = ([], refl, λ k l. absurd (not-suc-le-zero l))
choose (suc n) B f =
    let r = choose n B (λ k l. f k (omega arith)) in
    let x = f n (omega arith) in (
      r.0 ++ (x.0 ∷ []),
      length-append r.0 (x.0 ∷ []) ∙ omega (arith, r.1),
      λ k l. below_suc k n l
          (λ m. subst (B k) (sym (get_or-append r.0 (x.0 ∷ []) [] k (omega (arith, r.1)))) (r.2 k m))
          (λ q. subst (B k) (sym (get_or_at r.0 x.0 [] [] k (r.1 ∙ sym q))) (subst (λ (j : ℕ). B j x.0) (sym q) x.1)),
    )

pub meets-good : (h : History) (w : Criterion) → Meets w h
    → (R : ℕ → ℕ → Bool) × (vs : List (List ℕ)) × (length vs ≡ view_count w h) × OwnOrder h w R × Good h w R vs
unfolding MeetsSequential MeetsPram MeetsWeak MeetsCausal MeetsConverge MeetsStrict
meets-good h Sequential m =
    let c = choose 1 (λ k v. Explains h (program_order h) (is_event h) (λ _. true) v) (λ _ _. m) in (
      program_order h,
      c.0,
      c.1,
      λ t. refl,
      record {
        causal_order = program-causal h;
        is_view = λ k l. (c.2 k l).is_view;
        extends = λ k l. (c.2 k l).extends;
        only_past = λ t. absurd (false≢true t);
        replays = λ k l. (c.2 k l).replays;
      },
    )
meets-good h Pram m =
    let c =
    choose (length (processes h)) (λ k v. Explains h (program_order h) (is_event h) (own h (get_or (processes h) k 0)) v)
    (λ k l. m (get_or (processes h) k 0) (listed-process h k l)) in (
      program_order h,
      c.0,
      c.1,
      λ t. refl,
      record {
        causal_order = program-causal h;
        is_view = λ k l. (c.2 k l).is_view;
        extends = λ k l. (c.2 k l).extends;
        only_past = λ t. absurd (false≢true t);
        replays = λ k l. (c.2 k l).replays;
      },
    )
meets-good h Weak m =
    let c = choose (size h) (λ e v. Explains h m.0 (past_with m.0 e) (λ f. eqb f e) v) m.2 in (
      m.0,
      c.0,
      c.1,
      λ t. absurd (true≢false t),
      record { causal_order = m.1; is_view = λ k l. (c.2 k l).is_view; extends = λ k l. (c.2 k l).extends; only_past = λ t. absurd (false≢true t); replays = λ k l. (c.2 k l).replays },
    )
meets-good h Causal m =
    let c = choose (size h) (λ e v. Explains h m.0 (past_with m.0 e) (own h (process h e)) v) m.2 in (
      m.0,
      c.0,
      c.1,
      λ t. absurd (true≢false t),
      record { causal_order = m.1; is_view = λ k l. (c.2 k l).is_view; extends = λ k l. (c.2 k l).extends; only_past = λ t. absurd (false≢true t); replays = λ k l. (c.2 k l).replays },
    )
meets-good h Converge m =
    let R = m.0 in
    let c =
    choose 1
    (λ _ v. IsView (is_event h) v × Extends R v
    × ((e : ℕ) → e < size h → Replays h (only e) (start h) (keep (past_with R e) v)))
    (λ _ _. (m.2.0, (m.2.1, m.2.2, m.2.3))) in (
      R,
      c.0,
      c.1,
      λ t. absurd (true≢false t),
      record {
        causal_order = m.1;
        is_view = λ k l. (c.2 k l).0;
        extends = λ k l. (c.2 k l).1;
        only_past = λ t. absurd (false≢true t);
        replays = λ k l. (c.2 0 (omega arith)).2 k l;
      },
    )
meets-good h Strict m =
    let c =
    choose (length (processes h))
    (λ k v. Explains h m.0 (is_event h) (own h (get_or (processes h) k 0)) v × OnlyPast m.0 (own h (get_or (processes h) k 0)) v)
    (λ k l. let x = m.2 (get_or (processes h) k 0) (listed-process h k l) in (x.0, (x.1, x.2))) in (
      m.0,
      c.0,
      c.1,
      λ t. absurd (true≢false t),
      record {
        causal_order = m.1;
        is_view = λ k l. (c.2 k l).0.is_view;
        extends = λ k l. (c.2 k l).0.extends;
        only_past = λ t k l. (c.2 k l).1;
        replays = λ k l. (c.2 k l).0.replays;
      },
    )

-- ---- completeness: the certificate

abbrev pub pasts_by : Bool → ℕ → (ℕ → ℕ → Bool) → List (List ℕ)
pasts_by true n R = pasts_of n R
pasts_by false n R = []

-- the certificate made of an order and views
abbrev pub built : History → Criterion → (ℕ → ℕ → Bool) → List (List ℕ) → Certificate
built h w R vs = record { criterion = w; pasts = pasts_by (has_pasts w) (size h) R; views = vs }

-- the pasts list the order
pub listed-pasts : (h : History) (R : ℕ → ℕ → Bool) → OfEvents h R → listed (pasts_of (size h) R) ≡ R
unfolding pasts_of
listed-pasts h R i =
    fun_ext (λ a. fun_ext (λ b. by-test (ltb b n)
    (λ t. let q = get_or-table n (λ e. keep (λ f. R f e) (up_to n)) b [] (ltb-true b n t) in
    same_test (mem a (get_or (table n (λ e. keep (λ f. R f e) (up_to n))) b [])) (R a b)
    (λ s. (mem-keep (λ f. R f b) a (up_to n) (subst (λ (l : List ℕ). mem a l ≡ true) q s)).0)
    (λ s. subst (λ (l : List ℕ). mem a l ≡ true) (sym q) (keep-mem (λ f. R f b) a (up_to n) s (up_to-mem a n (i a b s).0))))
    (λ t. let q = get_or-table-out n (λ e. keep (λ f. R f e) (up_to n)) b [] (ltb-false b n t) in
    ap (mem a) q ∙ sym (by-test (R a b) (λ s. let l = (i a b s).1 in let m = ltb-false b n t in absurd (omega arith)) (λ f. f)))))
  where
    n : ℕ
    n = size h

order-built : (h : History) (b : Bool) (R : ℕ → ℕ → Bool) → OfEvents h R → (b ≡ false → R ≡ program_order h)
    → order_by b h (pasts_by b (size h) R) ≡ R
order-built h true R i o = listed-pasts h R i
order-built h false R i o = sym (o refl)

pub nil-events : (n : ℕ) → EventsOf n []
nil-events n = (λ e t. absurd (false≢true t), omega arith)

keep-events : (n : ℕ) (f : ℕ → Bool) → EventsOf n (keep f (up_to n))
keep-events n f =
    (below, length-once n (keep f (up_to n)) below (λ e. rw (count-keep, count-up_to) (small (f e) (ltb e n))))
  where
    below : (e : ℕ) → mem e (keep f (up_to n)) ≡ true → e < n
    below e t = mem-up_to e n (mem-keep f e (up_to n) t).1

    small : (a b : Bool) → cond a (one b) 0 ≤ 1
    small true true = omega arith
    small true false = omega arith
    small false b = omega arith

-- what holds of each entry of a table, and of its default, holds of all that `get_or` gives
at_table : {A : Type 0} (B : A → Type 0) (n : ℕ) (f : ℕ → A) (d : A) → ((k : ℕ) → k < n → B (f k)) → B d → (k : ℕ) → B (get_or (table n f) k d)
at_table B n f d g x k =
    by-test (ltb k n) (λ t. subst B (sym (get_or-table n f k d (ltb-true k n t))) (g k (ltb-true k n t)))
    (λ t. subst B (sym (get_or-table-out n f k d (ltb-false k n t))) x)

pasts-count : (b : Bool) (n : ℕ) (R : ℕ → ℕ → Bool) → length (pasts_by b n R) ≡ cond b n 0
unfolding pasts_of
pasts-count true n R = length-table n (λ e. keep (λ f. R f e) (up_to n))
pasts-count false n R = refl

pasts-events : (b : Bool) (n : ℕ) (R : ℕ → ℕ → Bool) (k : ℕ) → EventsOf n (get_or (pasts_by b n R) k [])
unfolding pasts_of
pasts-events true n R = at_table (EventsOf n) n (λ e. keep (λ f. R f e) (up_to n)) [] (λ k l. keep-events n (λ f. R f k)) (nil-events n)
pasts-events false n R = λ k. nil-events n

pasts-rising : (b : Bool) (n : ℕ) (R : ℕ → ℕ → Bool) (k : ℕ) → Rising (get_or (pasts_by b n R) k [])
unfolding pasts_of
pasts-rising true n R = at_table Rising n (λ e. keep (λ f. R f e) (up_to n)) [] (λ k l. rising-keep (λ f. R f k) n) tt
pasts-rising false n R = λ k. tt

-- a view of a set of events is a list of events
pub view-events : (n : ℕ) (P : ℕ → Bool) (v : List ℕ) → ((e : ℕ) → P e ≡ true → e < n) → IsView P v → EventsOf n v
unfolding IsView
view-events n P v i c = (below, length-once n v below (once-of-count P v c))
  where
    below : (e : ℕ) → mem e v ≡ true → e < n
    below e t = i e (sym (mem-of-count e v (P e) (c e)) ∙ t)

pub views-events : (h : History) (w : Criterion) (R : ℕ → ℕ → Bool) (vs : List (List ℕ)) → length vs ≡ view_count w h → Good h w R vs
    → (k : ℕ) → EventsOf (size h) (get_or vs k [])
views-events h w R vs q g k =
    by-test (ltb k (view_count w h))
    (λ t. let l = ltb-true k (view_count w h) t in
    view-events (size h) (view_set w h R k) (get_or vs k []) (set-inside h R g.causal_order.of_events w k l) (g.is_view k l))
    (λ t. let l = ltb-false k (view_count w h) t in
    subst (EventsOf (size h)) (sym (get_or-eq_default vs [] {n = k} (omega arith))) (nil-events (size h)))

pub built-accepted : (h : History) (w : Criterion) (R : ℕ → ℕ → Bool) (vs : List (List ℕ)) → length vs ≡ view_count w h → OwnOrder h w R
    → Good h w R vs → Readable h (built h w R vs) × (check h (built h w R vs) ≡ none)
built-accepted h w R vs q o g = (
  record {
    pasts_listed = pasts-count (has_pasts w) (size h) R;
    views_listed = q;
    past = pasts-events (has_pasts w) (size h) R;
    view = views-events h w R vs q g;
    rising = pasts-rising (has_pasts w) (size h) R;
  },
  good-check h (built h w R vs)
      (subst (λ (S : ℕ → ℕ → Bool). Good h w S vs) (sym (order-built h (has_pasts w) R g.causal_order.of_events o)) g),
)

pub complete : (h : History) (w : Criterion) → Meets w h
    → (c : Certificate) × (c.criterion ≡ w) × Readable h c × (check h c ≡ none)
complete h w m =
    let g = meets-good h w m in
    let a = built-accepted h w g.0 g.1 g.2 g.3 g.4 in
    (built h w g.0 g.1, refl, a.0, a.1)

-- the two together: a history meets a criterion exactly when some certificate of it is read and accepted
pub meets-iff : (h : History) (w : Criterion) → FewProcesses h
    → Meets w h ↔ ((c : Certificate) × (c.criterion ≡ w) × Readable h c × (check h c ≡ none))
meets-iff h w f = (complete h w, λ x. subst (λ (k : Criterion). Meets k h) x.1 (sound h x.0 f x.2 x.3))
