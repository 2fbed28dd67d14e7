-- The check answers nothing exactly when the lists of the certificate are good: a causal order, views of their sets that extend it,
-- in those of strict only its past before an own event, and replays that are right.
-- Assumes nothing.
use mathlib.Core.Path.{◌≡◌, refl, sym, ap, ◌∙◌, subst}
use mathlib.Core.Logic.{◌⊎◌, inl, inr}
use mathlib.Core.Bool.{Bool, true, false, not, ◌&&◌, cond, false≢true}
use mathlib.Core.List.{List, []}
use mathlib.Core.Option.{Option, none, some}
use Prim.Native.Nat.{ℕ, ◌<◌}
use native.Mathlib.Nat.{not-suc-le-zero}
use native.Mathlib.Omega.{arith}
use lib.Dec.{eqb, ltb}
use lib.ListN.{length, get_or, get_or-eq_default}
use borrow.Author.Tests.{ltb-true, ltb-false, eqb-true, lt-ltb, eq-eqb, not-false}
use Rattle.layout.proofs.Cases.{true-and}
use Rattle.certificate.specs.declared.record.Criterion.{Criterion}
use Rattle.certificate.specs.declared.record.Criterion.TheVariants.{Sequential, Pram, Weak, Causal, Converge, Strict}
use Rattle.certificate.specs.Criteria.{has_pasts}
use Rattle.criteria.specs.Tests.{any, or, found_if, lowest, one, count, mem}
use Rattle.criteria.specs.History.{History, size, process, program_order, CausalOrder, IsView, Extends, OnlyPast, own}
use Rattle.criteria.specs.Replay.{start, Replays}
use Rattle.criteria.specs.Certificate.{Certificate, is_strict, strict_count, view_count, replay_count, view_set, replayed, visible, view_number, listed, order_by, order, Readable, past_count}
use Rattle.criteria.specs.Check.{Fault, fault11, fault12, fault13, fault14, fault15, fault16, fault20, lacks_own, lacks_past, not_its_set, against, outside_past, first_wrong, map_fault, find11, find12, find13, find14, find15, find20, find16, check}
use Rattle.criteria.proofs.Lists.{by-test, and-true, or-true, any_none, none_any, or-none, flag-none, lowest-none, none-lowest, count-out}
use Rattle.criteria.proofs.Replay.{none-wrong, wrong-none}

pub record Good (h : History) (w : Criterion) (R : ℕ → ℕ → Bool) (vs : List (List ℕ)) : Type 0 where
  pub causal_order : CausalOrder h R
  pub is_view : (k : ℕ) → k < view_count w h → IsView (view_set w h R k) (get_or vs k [])
  pub extends : (k : ℕ) → k < view_count w h → Extends R (get_or vs k [])
  pub only_past : is_strict w ≡ true → (k : ℕ) → k < view_count w h → OnlyPast R (own h (view_number w h k)) (get_or vs k [])
  pub replays : (k : ℕ) → k < replay_count w h → Replays h (visible w h k) (start h) (replayed w R vs k)

-- ---- program order is a causal order

pub program-parts : (h : History) (a b : ℕ) → program_order h a b ≡ true → (a < b) × (b < size h) × (process h a ≡ process h b)
unfolding program_order
program-parts h a b t =
    let p = and-true (ltb a b && ltb b (size h)) (eqb (process h a) (process h b)) t in
    let q = and-true (ltb a b) (ltb b (size h)) p.0 in
    (ltb-true a b q.0, ltb-true b (size h) q.1, eqb-true (process h a) (process h b) p.1)

pub parts-program : (h : History) (a b : ℕ) → a < b → b < size h → process h a ≡ process h b → program_order h a b ≡ true
unfolding program_order
parts-program h a b p q r =
    true-and (true-and (lt-ltb a b p) (lt-ltb b (size h) q)) (eq-eqb (process h a) (process h b) r)

pub program-causal : (h : History) → CausalOrder h (program_order h)
program-causal h = record {
  of_events = λ a b t. let p = program-parts h a b t in (omega arith, p.1);
  irreflexive = λ a. by-test (program_order h a a) (λ t. let p = program-parts h a a t in absurd (omega arith)) (λ f. f);
  transitive = λ a b c s t.
      let p = program-parts h a b s in
      let q = program-parts h b c t in
      parts-program h a c (omega arith) q.1 (p.2 ∙ q.2);
  program = λ a b t. t;
}

-- ---- the order's faults

and-false : (a b : Bool) → a ≡ true → a && b ≡ false → b ≡ false
and-false a b p q = cc

pub false-and : (a b : Bool) → (a ≡ true → b ≡ false) → a && b ≡ false
false-and true b f = f refl
false-and false b f = refl

abbrev pub OfEvents : History → (ℕ → ℕ → Bool) → Type 0
OfEvents h R = (a b : ℕ) → R a b ≡ true → (a < size h) × (b < size h)

order-sound : (h : History) (R : ℕ → ℕ → Bool) → OfEvents h R
    → ((e : ℕ) → e < size h → lacks_own h R e ≡ false)
    → ((e : ℕ) → e < size h → R e e ≡ false)
    → ((e : ℕ) → e < size h → lacks_past (size h) R e ≡ false)
    → CausalOrder h R
unfolding lacks_own lacks_past
order-sound h R i a b c = record {
  of_events = i;
  irreflexive = λ e. by-test (R e e) (λ t. b e (i e e t).0) (λ f. f);
  transitive = λ x y z s t.
      not-false (R x z)
      (and-false (R x y) (not (R x z)) s
      (any_none (size h) (λ g. R g y && not (R g z))
      (and-false (R y z) (any (size h) (λ g. R g y && not (R g z))) t
      (any_none (size h) (λ f. R f z && any (size h) (λ g. R g f && not (R g z))) (c z (i y z t).1) y (i y z t).0))
      x (i x y s).0));
  program = λ x y t.
      let p = program-parts h x y t in
      not-false (R x y)
      (and-false (program_order h x y) (not (R x y)) t
      (any_none (size h) (λ f. program_order h f y && not (R f y)) (a y p.1) x (omega arith)));
}

not-of-true : {b : Bool} → b ≡ true → not b ≡ false
not-of-true p = cc

lacks_own-none : (h : History) (R : ℕ → ℕ → Bool) → CausalOrder h R → (e : ℕ) → lacks_own h R e ≡ false
unfolding lacks_own
lacks_own-none h R o e =
    none_any (size h) (λ f. program_order h f e && not (R f e))
    (λ f l. false-and (program_order h f e) (not (R f e)) (λ t. not-of-true (o.program f e t)))

lacks_past-none : (h : History) (R : ℕ → ℕ → Bool) → CausalOrder h R → (e : ℕ) → lacks_past (size h) R e ≡ false
unfolding lacks_past
lacks_past-none h R o e =
    none_any (size h) (λ f. R f e && any (size h) (λ g. R g f && not (R g e)))
    (λ f l. false-and (R f e) (any (size h) (λ g. R g f && not (R g e)))
    (λ t. none_any (size h) (λ g. R g f && not (R g e))
    (λ g m. false-and (R g f) (not (R g e)) (λ s. not-of-true (o.transitive g f e s t)))))

-- ---- a view's faults

past-inside : (h : History) (R : ℕ → ℕ → Bool) → OfEvents h R → (k : ℕ) → k < size h → (e : ℕ) → (R e k ≡ true) ⊎ (eqb e k ≡ true) → e < size h
past-inside h R i k l e (inl s) = (i e k s).0
past-inside h R i k l e (inr s) = let q = eqb-true e k s in omega arith

-- no event of a view's set lies past the last event
pub set-inside : (h : History) (R : ℕ → ℕ → Bool) → OfEvents h R → (w : Criterion) (k : ℕ) → k < view_count w h
    → (e : ℕ) → view_set w h R k e ≡ true → e < size h
set-inside h R i Sequential k l e t = ltb-true e (size h) t
set-inside h R i Pram k l e t = ltb-true e (size h) t
set-inside h R i Weak k l e t = past-inside h R i k l e (or-true (R e k) (eqb e k) t)
set-inside h R i Causal k l e t = past-inside h R i k l e (or-true (R e k) (eqb e k) t)
set-inside h R i Converge k l e t = ltb-true e (size h) t
set-inside h R i Strict k l e t = ltb-true e (size h) t

not_its_set-none : (n : ℕ) (P : ℕ → Bool) (v : List ℕ) → ((e : ℕ) → mem e v ≡ true → e < n) → ((e : ℕ) → P e ≡ true → e < n)
    → not_its_set n P v ≡ false → IsView P v
unfolding not_its_set IsView
not_its_set-none n P v in_v in_p m e =
    by-test (ltb e n)
    (λ t. eqb-true (count e v) (one (P e)) (not-false (eqb (count e v) (one (P e))) (any_none n (λ f. not (eqb (count f v) (one (P f)))) m e (ltb-true e n t))))
    (λ t. let l = ltb-false e n t in
    count-out e v (by-test (mem e v) (λ s. let k = in_v e s in absurd (omega arith)) (λ f. f))
    ∙ sym (ap one (by-test (P e) (λ s. let k = in_p e s in absurd (omega arith)) (λ f. f))))

none-not_its_set : (n : ℕ) (P : ℕ → Bool) (v : List ℕ) → IsView P v → not_its_set n P v ≡ false
unfolding not_its_set IsView
none-not_its_set n P v c =
    none_any n (λ e. not (eqb (count e v) (one (P e)))) (λ e l. not-of-true (eq-eqb (count e v) (one (P e)) (c e)))

against-none : (R : ℕ → ℕ → Bool) (v : List ℕ) → against R v ≡ false → Extends R v
unfolding against Extends
against-none R v a i j p q t =
    ltb-true i j
    (not-false (ltb i j)
    (and-false (R (get_or v i 0) (get_or v j 0)) (not (ltb i j)) t
    (any_none (length v) (λ l. R (get_or v i 0) (get_or v l 0) && not (ltb i l))
    (any_none (length v) (λ k. any (length v) (λ l. R (get_or v k 0) (get_or v l 0) && not (ltb k l))) a i p)
    j q)))

none-against : (R : ℕ → ℕ → Bool) (v : List ℕ) → Extends R v → against R v ≡ false
unfolding against Extends
none-against R v x =
    none_any (length v) (λ k. any (length v) (λ l. R (get_or v k 0) (get_or v l 0) && not (ltb k l)))
    (λ i p. none_any (length v) (λ l. R (get_or v i 0) (get_or v l 0) && not (ltb i l))
    (λ j q. false-and (R (get_or v i 0) (get_or v j 0)) (not (ltb i j)) (λ t. not-of-true (lt-ltb i j (x i j p q t)))))

outside_past-none : (R : ℕ → ℕ → Bool) (P : ℕ → Bool) (v : List ℕ) → outside_past R P v ≡ false → OnlyPast R P v
unfolding outside_past OnlyPast
outside_past-none R P v a i j p q t =
    not-false (R (get_or v i 0) (get_or v j 0))
    (and-false (P (get_or v j 0)) (not (R (get_or v i 0) (get_or v j 0))) t
    (any_none j (λ k. P (get_or v j 0) && not (R (get_or v k 0) (get_or v j 0)))
    (any_none (length v) (λ l. any l (λ k. P (get_or v l 0) && not (R (get_or v k 0) (get_or v l 0)))) a j q)
    i p))

none-outside_past : (R : ℕ → ℕ → Bool) (P : ℕ → Bool) (v : List ℕ) → OnlyPast R P v → outside_past R P v ≡ false
unfolding outside_past OnlyPast
none-outside_past R P v x =
    none_any (length v) (λ l. any l (λ k. P (get_or v l 0) && not (R (get_or v k 0) (get_or v l 0))))
    (λ j q. none_any j (λ k. P (get_or v j 0) && not (R (get_or v k 0) (get_or v j 0)))
    (λ i p. false-and (P (get_or v j 0)) (not (R (get_or v i 0) (get_or v j 0))) (λ t. not-of-true (x i j p q t))))

-- a bound that stands only where a test passes
where-true : (b : Bool) (n k : ℕ) → b ≡ true → k < n → k < cond b n 0
where-true true n k t l = l
where-true false n k t l = absurd (false≢true t)

pub true-where : (b : Bool) (n k : ℕ) → k < cond b n 0 → (b ≡ true) × (k < n)
true-where true n k l = (refl, l)
true-where false n k l = absurd (not-suc-le-zero l)

-- ---- the verdict

map-none : (f : ℕ → Fault) (o : Option ℕ) → map_fault f o ≡ none → o ≡ none
map-none f none e = refl
map-none f (some x) e = cc

-- the order of a certificate that was read is one of the events
pub listed-events : (n : ℕ) (ps : List (List ℕ)) → length ps ≡ n → ((k e : ℕ) → mem e (get_or ps k []) ≡ true → e < n)
    → (a b : ℕ) → listed ps a b ≡ true → (a < n) × (b < n)
listed-events n ps q i a b t = (
  i b a t,
  by-test (ltb b n) (λ s. ltb-true b n s)
      (λ s. let l = ltb-false b n s in
      absurd (false≢true (subst (λ (l : List ℕ). mem a l ≡ true) (get_or-eq_default ps [] {n = b} (omega arith)) t))),
)

find-false : (n : ℕ) (f : ℕ → Bool) (g : ℕ → Fault) → lowest n (λ k. found_if (f k) (g k)) ≡ none → (k : ℕ) → k < n → f k ≡ false
find-false n f g e k l = flag-none (f k) (g k) (lowest-none n (λ k. found_if (f k) (g k)) e k l)

false-find : (n : ℕ) (f : ℕ → Bool) (g : ℕ → Fault) → ((k : ℕ) → k < n → f k ≡ false) → lowest n (λ k. found_if (f k) (g k)) ≡ none
false-find n f g e = none-lowest n (λ k. found_if (f k) (g k)) (λ k l. rw (e k l) refl)

-- no fault of 11 to 13: a causal order. Where the criterion lists no pasts it is program order
order-good : (h : History) (b : Bool) (ps : List (List ℕ)) → length ps ≡ cond b (size h) 0
    → ((k e : ℕ) → mem e (get_or ps k []) ≡ true → e < size h)
    → find11 h (order_by b h ps) (cond b (size h) 0) ≡ none → find12 (order_by b h ps) (cond b (size h) 0) ≡ none
    → find13 h (order_by b h ps) (cond b (size h) 0) ≡ none → CausalOrder h (order_by b h ps)
order-good h true ps q i x y z =
    order-sound h (listed ps) (listed-events (size h) ps q i)
    (find-false (size h) (lacks_own h (listed ps)) fault11 x) (find-false (size h) (λ e. listed ps e e) fault12 y)
    (find-false (size h) (lacks_past (size h) (listed ps)) fault13 z)
order-good h false ps q i x y z = program-causal h

pub check-good : (h : History) (c : Certificate) → Readable h c → check h c ≡ none → Good h c.criterion (order h c) c.views
unfolding check
check-good h c rd e =
    let w = c.criterion in
    let R : ℕ → ℕ → Bool = order h c in
    let vs = c.views in
    let a = past_count w h in
    let e1 = or-none (find11 h R a) (or (find12 R a) (or (find13 h R a) (or (find14 w h R vs) (or (find15 w h R vs) (or (find20 w h R vs) (find16 w h R vs)))))) e in
    let e2 = or-none (find12 R a) (or (find13 h R a) (or (find14 w h R vs) (or (find15 w h R vs) (or (find20 w h R vs) (find16 w h R vs))))) e1.1 in
    let e3 = or-none (find13 h R a) (or (find14 w h R vs) (or (find15 w h R vs) (or (find20 w h R vs) (find16 w h R vs)))) e2.1 in
    let e4 = or-none (find14 w h R vs) (or (find15 w h R vs) (or (find20 w h R vs) (find16 w h R vs))) e3.1 in
    let e5 = or-none (find15 w h R vs) (or (find20 w h R vs) (find16 w h R vs)) e4.1 in
    let e6 = or-none (find20 w h R vs) (find16 w h R vs) e5.1 in
    let o : CausalOrder h R = order-good h (has_pasts w) c.pasts rd.pasts_listed (λ k f t. (rd.past k).0 f t) e1.0 e2.0 e3.0 in
    record {
      causal_order = o;
      is_view = λ k l.
          not_its_set-none (size h) (view_set w h R k) (get_or vs k []) (rd.view k).0 (set-inside h R o.of_events w k l)
          (find-false (view_count w h) (λ k. not_its_set (size h) (view_set w h R k) (get_or vs k [])) (λ k. fault14 (view_number w h k)) e4.0 k l);
      extends = λ k l.
          against-none R (get_or vs k []) (find-false (view_count w h) (λ k. against R (get_or vs k [])) (λ k. fault15 (view_number w h k)) e5.0 k l);
      only_past = λ t k l.
          outside_past-none R (own h (view_number w h k)) (get_or vs k [])
          (find-false (strict_count w h) (λ k. outside_past R (own h (view_number w h k)) (get_or vs k [])) (λ k. fault20 (view_number w h k)) e6.0 k
          (where-true (is_strict w) (view_count w h) k t l));
      replays = λ k l.
          none-wrong h (visible w h k) (start h) (replayed w R vs k)
          (map-none (fault16 (view_number w h k)) (first_wrong h (visible w h k) (start h) (replayed w R vs k))
          (lowest-none (replay_count w h)
          (λ k. map_fault (fault16 (view_number w h k)) (first_wrong h (visible w h k) (start h) (replayed w R vs k)))
          e6.1 k l));
    }

pub good-check : (h : History) (c : Certificate) → Good h c.criterion (order h c) c.views → check h c ≡ none
unfolding check
good-check h c g =
    let w = c.criterion in
    let R : ℕ → ℕ → Bool = order h c in
    let vs = c.views in
    let a = past_count w h in
    let o = g.causal_order in
    let e1 : find11 h R a ≡ none = false-find a (lacks_own h R) fault11 (λ e _. lacks_own-none h R o e) in
    let e2 : find12 R a ≡ none = false-find a (λ e. R e e) fault12 (λ e _. o.irreflexive e) in
    let e3 : find13 h R a ≡ none = false-find a (lacks_past (size h) R) fault13 (λ e _. lacks_past-none h R o e) in
    let e4 : find14 w h R vs ≡ none =
    false-find (view_count w h) (λ k. not_its_set (size h) (view_set w h R k) (get_or vs k [])) (λ k. fault14 (view_number w h k))
    (λ k l. none-not_its_set (size h) (view_set w h R k) (get_or vs k []) (g.is_view k l)) in
    let e5 : find15 w h R vs ≡ none =
    false-find (view_count w h) (λ k. against R (get_or vs k [])) (λ k. fault15 (view_number w h k)) (λ k l. none-against R (get_or vs k []) (g.extends k l)) in
    let e6 : find16 w h R vs ≡ none =
    none-lowest (replay_count w h)
    (λ k. map_fault (fault16 (view_number w h k)) (first_wrong h (visible w h k) (start h) (replayed w R vs k)))
    (λ k l. ap (map_fault (fault16 (view_number w h k))) (wrong-none h (visible w h k) (start h) (replayed w R vs k) (g.replays k l))) in
    let e20 : find20 w h R vs ≡ none =
    false-find (strict_count w h) (λ k. outside_past R (own h (view_number w h k)) (get_or vs k [])) (λ k. fault20 (view_number w h k))
    (λ k l. let t = true-where (is_strict w) (view_count w h) k l in
    none-outside_past R (own h (view_number w h k)) (get_or vs k []) (g.only_past t.0 k t.1)) in
    none_or e1 (none_or e2 (none_or e3 (none_or e4 (none_or e5 (none_or e20 e6)))))
  where
    none_or : {x y : Option Fault} → x ≡ none → y ≡ none → or x y ≡ none
    none_or p q = cc
