-- What the searches of views find is 14, 15 and 20 of the check. Assumes nothing.
use Prim.Native.Nat.{ℕ, ◌≤◌, ◌<◌}
use mathlib.Core.Path.{◌≡◌, refl, sym, ap, ap₂, subst, ◌∙◌}
use mathlib.Core.Bool.{Bool, true, cond, not, ◌&&◌, ◌||◌}
use mathlib.Core.List.{List, []}
use mathlib.Core.Option.{Option, none, some}
use lib.Dec.{eqb}
use lib.ListN.{length, get_or}
use Rattle.certificate.specs.declared.record.Criterion.{Criterion}
use Rattle.certificate.specs.declared.record.Criterion.TheVariants.{Pram, Weak, Causal, Converge, Sequential, Strict}
use Rattle.certificate.specs.Steps.Numbers.{event_each}
use Rattle.criteria.specs.Tests.{any, or, found_if, lowest, count, mem, place}
use Rattle.criteria.specs.History.{History, size, process, own}
use Rattle.criteria.specs.Certificate.{is_strict, view_count, view_number, view_set}
use Rattle.criteria.specs.Check.{Fault, fault14, fault15, fault20, not_its_set, against, outside_past, find14, find15, find20}
use Rattle.criteria.proofs.Lists.{flag-none, lowest-none, mem-get_or, take-mem, place_in}
use Rattle.criteria.proofs.Check.{set-inside, true-where}
use Rattle.orders.specs.declared.views.Views.{Views}
use Rattle.orders.specs.Rows.{in_rows, view_at, IsOrder}
use Rattle.orders.proofs.BitLaws.{any_same}
use Rattle.orders.proofs.ViewLaws.{once-of-set}
use Rattle.orders.proofs.SizeLaws.{set-size}
use Rattle.orders.proofs.SearchLaws.{outside, set_same}
use Rattle.faults.specs.Steps.{set_at, view_fault}
use Rattle.faults.proofs.FoundLaws.{lowest-same, found_some, found_none}
use Rattle.faults.proofs.OrderLaws.{Found}

-- ---- what the three searches say of the fault
module _ (w : Criterion) (v : Views) (rows processes : List ℕ) (n : ℕ) where
  abbrev numbered : List ℕ
  numbered = v.numbers.now

  abbrev count_is : ℕ
  count_is = length v.numbers.now

  -- how many views are asked for 20
  abbrev strict_count : ℕ
  strict_count = cond (is_strict w) (length v.numbers.now) 0

  abbrev fault_is : Option Fault
  fault_is = view_fault (event_each w) v.rows.now v.lengths.now v.numbers.now rows processes (length v.numbers.now) strict_count n

  -- the tests of view k
  abbrev pub not_set : ℕ → Bool
  not_set k = not_its_set 64 (set_at (event_each w) rows n k) (view_at v.rows.now v.lengths.now k)

  abbrev pub inverted : ℕ → Bool
  inverted k = against (in_rows rows) (view_at v.rows.now v.lengths.now k)

  pub fault-set : (a : ℕ) → Found (some a) not_set count_is → some (fault14 (get_or numbered a 0)) ≡ fault_is
  unfolding view_fault
  fault-set a p = rw (found_some not_set (λ k. fault14 (get_or numbered k 0)) count_is a p) refl

  module _ (p : Found none not_set count_is) where
    pub fault-against : (b : ℕ) → Found (some b) inverted count_is → some (fault15 (get_or numbered b 0)) ≡ fault_is
    unfolding view_fault
    fault-against b q =
        rw (found_none not_set (λ k. fault14 (get_or numbered k 0)) count_is p, found_some inverted (λ k. fault15 (get_or numbered k 0)) count_is b q) refl

    module _ (q : Found none inverted count_is) where
      pub fault-outside : (d : ℕ) → Found (some d) (outside v.rows.now v.lengths.now rows processes v.numbers.now) strict_count
          → some (fault20 (get_or numbered d 0)) ≡ fault_is
      unfolding view_fault
      fault-outside d r =
          rw (found_none not_set (λ k. fault14 (get_or numbered k 0)) count_is p, found_none inverted (λ k. fault15 (get_or numbered k 0)) count_is q)
          (sym (found_some (outside v.rows.now v.lengths.now rows processes v.numbers.now) (λ k. fault20 (get_or numbered k 0)) strict_count d r))

      pub fault-none : Found none (outside v.rows.now v.lengths.now rows processes v.numbers.now) strict_count → none ≡ fault_is
      unfolding view_fault
      fault-none r =
          rw (found_none not_set (λ k. fault14 (get_or numbered k 0)) count_is p, found_none inverted (λ k. fault15 (get_or numbered k 0)) count_is q)
          (sym (found_none (outside v.rows.now v.lengths.now rows processes v.numbers.now) (λ k. fault20 (get_or numbered k 0)) strict_count r))

  -- each view is its set: none has an entry twice
  pub once-views : Found none not_set count_is → (k : ℕ) → k < count_is → (e : ℕ) → count e (view_at v.rows.now v.lengths.now k) ≤ 1
  once-views p k h =
      once-of-set (set_at (event_each w) rows n k) (view_at v.rows.now v.lengths.now k) inside
      (flag-none (not_set k) k (lowest-none count_is (λ k. found_if (not_set k) k) (sym p) k h))
    where
      inside : (e : ℕ) → mem e (view_at v.rows.now v.lengths.now k) ≡ true → e < 64
      inside e t =
          let p = take-mem e (get_or v.lengths.now k 0) (get_or v.rows.now k []) t in
          subst (λ (f : ℕ). f < 64) (place_in e (get_or v.rows.now k []) p.0).1 (v.events.entries k h (place e (get_or v.rows.now k [])) p.1)

-- ---- the fault is that of the check
-- own events that are the same among the entries of a view
outside-same : (R : ℕ → ℕ → Bool) (P Q : ℕ → Bool) (v : List ℕ) → ((e : ℕ) → mem e v ≡ true → P e ≡ Q e) → outside_past R P v ≡ outside_past R Q v
unfolding outside_past
outside-same R P Q v f =
    any_same (length v) (λ j. any j (λ i. P (get_or v j 0) && not (R (get_or v i 0) (get_or v j 0)))) (λ j. any j (λ i. Q (get_or v j 0) && not (R (get_or v i 0) (get_or v j 0))))
    (λ j l. ap (λ (b : Bool). any j (λ i. b && not (R (get_or v i 0) (get_or v j 0)))) (f (get_or v j 0) (mem-get_or v j l)))

module _ (w : Criterion) (h : History) (R : ℕ → ℕ → Bool) (rows : List ℕ) (views : List (List ℕ)) (lengths numbers : List ℕ) (vs : List (List ℕ)) (m : ℕ)
    (few : size h ≤ 64) (is-order : IsOrder rows R) (inside : (a b : ℕ) → R a b ≡ true → (a < size h) × (b < size h))
    (counted : m ≡ view_count w h)
    (named : (k : ℕ) → k < m → get_or numbers k 0 ≡ view_number w h k)
    (same : (k : ℕ) → k < m → view_at views lengths k ≡ get_or vs k [])
    (events : (k : ℕ) → k < m → (e : ℕ) → mem e (get_or vs k []) ≡ true → e < size h)
    (processes : List ℕ) (processed : (e : ℕ) → e < size h → get_or processes e 0 ≡ process h e) where
  set-of : (c : Criterion) (k f : ℕ) → set_at (event_each c) rows (size h) k f ≡ view_set c h R k f
  set-of Pram k f = refl
  set-of Weak k f = ap (λ (b : Bool). b || eqb f k) (is-order f k)
  set-of Causal k f = ap (λ (b : Bool). b || eqb f k) (is-order f k)
  set-of Converge k f = refl
  set-of Sequential k f = refl
  set-of Strict k f = refl

  same_set : (k : ℕ) → k < m → not_its_set 64 (set_at (event_each w) rows (size h) k) (view_at views lengths k) ≡ not_its_set (size h) (view_set w h R k) (get_or vs k [])
  same_set k l =
      set_same 64 (set_at (event_each w) rows (size h) k) (view_set w h R k) (view_at views lengths k) (set-of w k)
      ∙ ap (not_its_set 64 (view_set w h R k)) (same k l)
      ∙ set-size (size h) few (view_set w h R k) (get_or vs k []) (set-inside h R inside w k (subst (λ (n : ℕ). k < n) counted l)) (events k l)

  same-against : (k : ℕ) → k < m → against (in_rows rows) (view_at views lengths k) ≡ against R (get_or vs k [])
  same-against k l = ap (λ (S : ℕ → ℕ → Bool). against S (view_at views lengths k)) (λ i a b. is-order a b i) ∙ ap (against R) (same k l)

  -- a search of the views of the certificate
  same-find : (F : ℕ → Fault) (s t : ℕ → Bool) → ((k : ℕ) → k < m → s k ≡ t k)
      → lowest m (λ k. found_if (s k) (F (get_or numbers k 0))) ≡ lowest (view_count w h) (λ k. found_if (t k) (F (view_number w h k)))
  same-find F s t e =
      lowest-same m (λ k. found_if (s k) (F (get_or numbers k 0))) (λ k. found_if (t k) (F (view_number w h k)))
      (λ k l. ap₂ (λ (b : Bool) (v : ℕ). found_if b (F v)) (e k l) (named k l))
      ∙ ap (λ (n : ℕ). lowest n (λ k. found_if (t k) (F (view_number w h k)))) counted

  same-outside : (k : ℕ) → k < m
      → outside views lengths rows processes numbers k ≡ outside_past R (own h (view_number w h k)) (get_or vs k [])
  same-outside k l =
      ap (λ (S : ℕ → ℕ → Bool). outside_past S (λ e. eqb (get_or processes e 0) (get_or numbers k 0)) (view_at views lengths k)) (λ i a b. is-order a b i)
      ∙ ap (outside_past R (λ e. eqb (get_or processes e 0) (get_or numbers k 0))) (same k l)
      ∙ outside-same R (λ e. eqb (get_or processes e 0) (get_or numbers k 0)) (own h (view_number w h k)) (get_or vs k [])
      (λ e t. ap₂ (λ (p q : ℕ). eqb p q) (processed e (events k l e t)) (named k l))

  find-outside : lowest (cond (is_strict w) m 0)
      (λ k. found_if (outside views lengths rows processes numbers k) (fault20 (get_or numbers k 0)))
      ≡ find20 w h R vs
  find-outside =
      lowest-same (cond (is_strict w) m 0)
      (λ k. found_if (outside views lengths rows processes numbers k) (fault20 (get_or numbers k 0)))
      (λ k. found_if (outside_past R (own h (view_number w h k)) (get_or vs k [])) (fault20 (view_number w h k)))
      (λ k l. let i = (true-where (is_strict w) m k l).1 in ap₂ (λ (b : Bool) (v : ℕ). found_if b (fault20 v)) (same-outside k i) (named k i))
      ∙ ap (λ (n : ℕ). lowest (cond (is_strict w) n 0) (λ k. found_if (outside_past R (own h (view_number w h k)) (get_or vs k [])) (fault20 (view_number w h k)))) counted

  pub view-faults : view_fault (event_each w) views lengths numbers rows processes m (cond (is_strict w) m 0) (size h)
      ≡ or (find14 w h R vs) (or (find15 w h R vs) (find20 w h R vs))
  unfolding view_fault
  view-faults =
      ap₂ (λ (a b : Option Fault). or a b)
      (same-find fault14 (λ k. not_its_set 64 (set_at (event_each w) rows (size h) k) (view_at views lengths k)) (λ k. not_its_set (size h) (view_set w h R k) (get_or vs k [])) same_set)
      (ap₂ (λ (a b : Option Fault). or a b)
      (same-find fault15 (λ k. against (in_rows rows) (view_at views lengths k)) (λ k. against R (get_or vs k [])) same-against)
      find-outside)
