-- Laws of the views that are completed: the last event that passes, two lists joined, a list that is completed. Assumes nothing.
use Rattle.std.proofs.Common.{ℕ, zero, suc, ◌+◌, ◌-◌, ◌≤◌, ◌<◌, ◌≡◌, refl, sym, ap, ap₂, ◌∙◌, ◌⊎◌, inl, inr, Bool, true, false, not, cond, List, [], ◌∷◌, ◌++◌, length, get_or, take, drop, replicate, length-append, ltb, eqb, eq-eqb, ne_eqb, Option, Some, None, MatchOption, unwrap_or, arith}
use Rattle.std.proofs.Math.Seq.{take-append_seam, drop-append-add}
use Rattle.std.proofs.lemmas.List.{drop-replicate, take-append-drop}
use Rattle.std.proofs.lemmas.Slice.{take-put_mid, drop-put_mid}
use native.Mathlib.Nat.{not-suc-le-zero}
use borrow.Rule.Slice.PartMut.{put_mid}
use Rattle.history.specs.Record.{pad}
use Rattle.history.proofs.PadLaws.{take-pad}
use Rattle.certificate.specs.declared.record.EventList.{EventList}
use Rattle.certificate.specs.Record.{event_list_of}
use Rattle.criteria.specs.Tests.{highest, up_to, keep, mem, place}
use Rattle.criteria.specs.Weaken.{completed}
use Rattle.criteria.proofs.Lists.{by-test, or-true, count-append, count-keep, count-up_to, count-out, mem-append, mem-keep, mem-up_to, keep_append, place_in, Once, one-le, length-once}
use Rattle.orders.specs.Rows.{in_row}
use Rattle.layout.proofs.Cases.{by-eq}
use Rattle.weakened.specs.Steps.{last_in}

-- ---- the last number that passes
pub last-below : (n : ℕ) (f : ℕ → Bool) → 0 < n → highest n f < n
last-below zero f h = absurd (not-suc-le-zero h)
last-below (suc n) f h = go n (f n)
  where
    few : (n : ℕ) → highest n f ≤ n
    few zero = omega arith
    few (suc n) = at (f n) (few n)
      where
        at : (b : Bool) → highest n f ≤ n → cond b n (highest n f) ≤ suc n
        at true l = omega arith
        at false l = omega arith

    go : (n : ℕ) (b : Bool) → cond b n (highest n f) < suc n
    go n true = omega arith
    go n false = omega (arith, few n)

-- ---- the last event of a process
last-found : (n : ℕ) (f : ℕ → Bool) (e : ℕ) → e < n → f e ≡ true → ((k : ℕ) → e < k → k < n → f k ≡ false) → highest n f ≡ e
last-found zero f e h t none = absurd (not-suc-le-zero h)
last-found (suc n) f e h t none =
    by-eq e n
    (λ q. rw (ap f (sym q) ∙ t) (sym q))
    (λ d. let l : e < n = omega (arith, h, d) in rw (none n l (omega arith)) (last-found n f e l t (λ k a b. none k a (omega arith))))

last-none : (n : ℕ) (f : ℕ → Bool) → ((k : ℕ) → k < n → f k ≡ false) → highest n f ≡ 0
last-none zero f none = refl
last-none (suc n) f none = rw (none n (omega arith)) (last-none n f (λ k l. none k (omega arith)))

-- where there is none, it is 0
pub last-or_first : (ps : List ℕ) (p : ℕ) (r : Option ℕ)
    → MatchOption r ((k : ℕ) → k < length ps → get_or ps k 0 ≡ p → ⊥)
    (λ e. (e < length ps) × (get_or ps e 0 ≡ p) × ((k : ℕ) → e < k → k < length ps → get_or ps k 0 ≡ p → ⊥))
    → (unwrap_or r 0 ≡ last_in (length ps) ps p) × (0 < length ps → unwrap_or r 0 < length ps)
last-or_first ps p None none =
    (sym (last-none (length ps) (λ e. eqb (get_or ps e 0) p) (λ k l. ne_eqb (get_or ps k 0) p (none k l))), λ l. l)
last-or_first ps p (Some e) found =
    (sym (last-found (length ps) (λ e. eqb (get_or ps e 0) p) e found.0 (eq-eqb (get_or ps e 0) p found.1) (λ k a b. ne_eqb (get_or ps k 0) p (found.2 k a b))), λ _. found.0)

-- ---- two lists joined in a blank array
module _ (a b : List ℕ) (few : length a + length b ≤ 64) where
  joined-array : put_mid (length a) (length a + length b - length a) (a ++ drop (length a) (replicate 64 0)) b ≡ pad 64 0 (a ++ b)
  unfolding pad
  joined-array =
      let n = length a + length b in
      let whole = a ++ drop (length a) (replicate 64 0) in
      let all = put_mid (length a) (length a + length b - length a) whole b in
      let long : length a ≤ length whole = let l = length-append a (drop (length a) (replicate 64 0)) in omega (arith, l) in
      let begin : take n all ≡ a ++ b =
      take-put_mid (length a) (length a + length b - length a) whole b n refl long ∙ ap (λ (l : List ℕ). l ++ b) (take-append_seam a (drop (length a) (replicate 64 0))) in
      let behind : drop n all ≡ replicate (64 - length (a ++ b)) 0 =
      drop-put_mid (length a) (length a + length b - length a) whole b n (omega arith) long (omega arith)
      ∙ drop-append-add a (drop (length a) (replicate 64 0)) (length b)
      ∙ ap (drop (length b)) (drop-replicate (length a) 64 0)
      ∙ drop-replicate (length b) (64 - length a) 0
      ∙ ap (λ (k : ℕ). replicate k 0) (let l = length-append a b in omega (arith, l)) in
      sym (take-append-drop n all) ∙ ap₂ (λ (l m : List ℕ). l ++ m) begin behind

  pub joined-copied : (c d : List ℕ) → c ≡ a → d ≡ b
      → ◌≡◌ {A = EventList}
      (record {
        count = length a + length b;
        events = put_mid (length a) (length a + length b - length a) (c ++ drop (length a) (replicate 64 0)) d;
      })
      (event_list_of (a ++ b))
  unfolding event_list_of
  joined-copied c d q r =
      ap₂ {C = EventList}
      (λ (l m : List ℕ). record {
        count = length a + length b;
        events = put_mid (length a) (length a + length b - length a) (l ++ drop (length a) (replicate 64 0)) m;
      }) q r
      ∙ ap₂ {C = EventList} (λ (k : ℕ) (l : List ℕ). record { count = k; events = l }) (sym (length-append a b)) joined-array

-- ---- a list that is completed
-- tests that agree below n keep the same of the first n numbers
pub keep-below : (f g : ℕ → Bool) (n : ℕ) → ((e : ℕ) → e < n → f e ≡ g e) → keep f (up_to n) ≡ keep g (up_to n)
keep-below f g zero h = refl
keep-below f g (suc n) h =
    keep_append f (up_to n) (n ∷ [])
    ∙ rw (keep-below f g n (λ e l. h e (omega (arith, l))), h n (omega arith)) refl
    ∙ sym (keep_append g (up_to n) (n ∷ []))

module _ (n : ℕ) (v : List ℕ) (entries : (i : ℕ) → i < length v → get_or v i 0 < n) (once : Once v) where
  completed-below : (e : ℕ) → mem e (completed n v) ≡ true → e < n
  unfolding completed
  completed-below e t =
      go (or-true (mem e v) (mem e (keep (λ f. not (mem f v)) (up_to n))) (sym (mem-append e v (keep (λ f. not (mem f v)) (up_to n))) ∙ t))
    where
      go : (mem e v ≡ true) ⊎ (mem e (keep (λ f. not (mem f v)) (up_to n)) ≡ true) → e < n
      go (inl s) = let p = place_in e v s in rw p.1 at (entries (place e v) p.0)
      go (inr s) = mem-up_to e n (mem-keep (λ f. not (mem f v)) e (up_to n) s).1

  completed-once : Once (completed n v)
  unfolding completed
  completed-once e =
      rw (count-append e v (keep (λ f. not (mem f v)) (up_to n)), count-keep (λ f. not (mem f v)) e (up_to n), count-up_to e n)
      (by-test (mem e v) (λ t. rw t (omega (arith, once e))) (λ t. rw (t, count-out e v t) (omega (arith, one-le (ltb e n)))))

  completed-few : length (completed n v) ≤ n
  completed-few = length-once n (completed n v) completed-below completed-once

  -- the row of all others below 64, and its events behind the list
  module _ (seen rest : ℕ) (small : n ≤ 64) (s : (e : ℕ) → in_row seen e ≡ mem e v) (o : (e : ℕ) → e < 64 → in_row rest e ≡ not (in_row seen e))
      (behind : EventList) (q : behind ≡ event_list_of (keep (in_row rest) (up_to n))) where
    behind-is : take behind.count behind.events ≡ keep (λ f. not (mem f v)) (up_to n)
    unfolding event_list_of
    behind-is =
        ap (λ (l : EventList). take l.count l.events) q
        ∙ take-pad 64 0 (keep (in_row rest) (up_to n))
        ∙ keep-below (in_row rest) (λ f. not (mem f v)) n (λ e l. o e (omega (arith, l)) ∙ ap not (s e))

    pub behind-joined : v ++ take behind.count behind.events ≡ completed n v
    unfolding completed
    behind-joined = ap (λ (l : List ℕ). v ++ l) behind-is

    -- both fit in 64 places
    pub behind-few : length v + length (take behind.count behind.events) ≤ 64
    behind-few =
        let a = ap length behind-joined in
        let b = length-append v (take behind.count behind.events) in
        omega (arith, a, b, completed-few)

    -- the list that is made
    pub completed-is : (l : EventList) → l ≡ event_list_of (v ++ take behind.count behind.events)
        → (l ≡ event_list_of (completed n v)) × (l.count ≤ 64)
    unfolding event_list_of
    completed-is l r =
        let e : l ≡ event_list_of (completed n v) = r ∙ ap event_list_of behind-joined in
        let z = ap (λ (x : EventList). x.count) e in
        (e, omega (arith, z, completed-few))
