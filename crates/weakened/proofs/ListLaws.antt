-- Laws of lists of events in arrays. Assumes nothing.
use Rattle.std.proofs.Common.{ℕ, suc, ◌+◌, ◌≤◌, ◌<◌, ◌≡◌, refl, sym, ap, ap₂, ◌∙◌, List, [], ◌∷◌, ◌++◌, length, take, drop, replicate, cond, eqb, true, false, arith, Bool, ltb, Option, Some, None, eq-eqb, ne_eqb, ltb-true, ltb-false, add-one, length-take, append-nil}
use Rattle.std.proofs.lemmas.List.{drop-replicate}
use Rattle.std.specs.List.{position, position_or_len}
use Rattle.std.proofs.lemmas.List.{take_all}
use native.Mathlib.Nat.{min-le_right}
use Rattle.history.specs.Record.{pad}
use Rattle.certificate.specs.declared.record.EventList.{EventList}
use Rattle.certificate.specs.Record.{event_list_of}
use Rattle.criteria.specs.Tests.{place, keep, keep_if, up_to}
use Rattle.criteria.proofs.Lists.{keep_append}
use Rattle.criteria.specs.Weaken.{up_to_in}
use Rattle.layout.proofs.Cases.{by-eq}

-- a list that was copied into a blank array
pub list-copied : (v filled : List ℕ) → filled ≡ v
    → ◌≡◌ {A = EventList} (record { count = length v; events = filled ++ drop (length v) (replicate 64 0) }) (event_list_of v)
unfolding event_list_of pad
list-copied v filled q =
    ap₂ {C = EventList} (λ (l m : List ℕ). record { count = length v; events = l ++ m }) q (drop-replicate (length v) 64 0)

length-take-le_length : (k : ℕ) (v : List ℕ) → length (take k v) ≤ length v
length-take-le_length k v = rw (length-take k v) (min-le_right k (length v))

-- the place of an event is the library's position
place-position : (e : ℕ) (v : List ℕ) → position_or_len (λ x. eqb x e) v ≡ place e v
place-position e [] = refl
place-position e (x ∷ v) =
    by-eq x e (λ q. rw (eq-eqb x e q, eq-eqb e x (sym q)) refl)
    (λ n. rw (ne_eqb x e n, ne_eqb e x (λ q. n (sym q)), place-position e v) grind arith)

position-some : (b : Bool) (i k : ℕ) → Some k ≡ cond b (Some i) None → (b ≡ true) × (k ≡ i)
position-some true i k q = (refl, cc)
position-some false i k q = cc

position-none : (b : Bool) (i : ℕ) → ◌≡◌ {A = Option ℕ} None (cond b (Some i) None) → b ≡ false
position-none true i q = cc
position-none false i q = refl

module _ (e : ℕ) (v : List ℕ) where
  pub place-some : (k : ℕ) → Some k ≡ position (λ x. eqb x e) v → (k ≡ place e v) × (k < length v)
  place-some k q =
      let r = position-some (ltb (position_or_len (λ x. eqb x e) v) (length v)) (position_or_len (λ x. eqb x e) v) k q in
      let l = ltb-true (position_or_len (λ x. eqb x e) v) (length v) r.0 in
      (r.1 ∙ place-position e v, omega (arith, r.1, l))

  pub place-none : ◌≡◌ {A = Option ℕ} None (position (λ x. eqb x e) v) → length v ≤ place e v
  place-none q =
      let r = position-none (ltb (position_or_len (λ x. eqb x e) v) (length v)) (position_or_len (λ x. eqb x e) v) q in
      let l = ltb-false (position_or_len (λ x. eqb x e) v) (length v) r in
      omega (arith, l, place-position e v)

-- ---- the parts of a view
module _ (e : ℕ) (v : List ℕ) where
  pub before_some : (k : ℕ) → Some k ≡ position (λ x. eqb x e) v → (take k v ≡ take (place e v) v) × (length (take k v) ≤ length v)
  before_some k q = (ap (λ (i : ℕ). take i v) (place-some e v k q).0, length-take-le_length k v)

  pub before_none : ◌≡◌ {A = Option ℕ} None (position (λ x. eqb x e) v) → (v ≡ take (place e v) v) × (length v ≤ length v)
  before_none q = (sym (take_all (place e v) v (place-none e v q)), omega arith)

  pub up_to_some : (k : ℕ) → Some k ≡ position (λ x. eqb x e) v → (take (k + 1) v ≡ up_to_in v e) × (length (take (k + 1) v) ≤ length v)
  unfolding up_to_in
  up_to_some k q = (rw add-one (ap (λ (i : ℕ). take (suc i) v) (place-some e v k q).0), length-take-le_length (k + 1) v)

  pub up_to_none : ◌≡◌ {A = Option ℕ} None (position (λ x. eqb x e) v) → (v ≡ up_to_in v e) × (length v ≤ length v)
  unfolding up_to_in
  up_to_none q = (sym (take_all (suc (place e v)) v (let l = place-none e v q in omega (arith, l))), omega arith)

-- ---- the numbers below e that pass, rising: one more, which passes or not
module _ (f : ℕ → Bool) (e : ℕ) where
  keep-next : keep f (up_to (e + 1)) ≡ keep f (up_to e) ++ keep_if (f e) e []
  keep-next = rw add-one (keep_append f (up_to e) (e ∷ []))

  pub rising-kept : f e ≡ true → keep f (up_to e) ++ e ∷ [] ≡ keep f (up_to (e + 1))
  rising-kept t = sym (keep-next ∙ rw t refl)

  pub rising-left : f e ≡ false → keep f (up_to e) ≡ keep f (up_to (e + 1))
  rising-left t = sym (keep-next ∙ rw t (append-nil (keep f (up_to e))))
