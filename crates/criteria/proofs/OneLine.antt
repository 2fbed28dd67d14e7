-- From an accepted certificate with pasts whose order leaves no two updates unordered: the sequential certificate of one line is accepted.
-- Assumes nothing.
use mathlib.Core.Path.{◌≡◌, refl, sym, ap, ap₂, ◌∙◌, subst}
use mathlib.Core.Logic.{◌⊎◌, inl, inr}
use mathlib.Core.Bool.{Bool, true, false, not, ◌&&◌, ◌||◌, cond, false≢true, true≢false}
use mathlib.Core.List.{List, [], ◌∷◌, ◌++◌}
use mathlib.Core.Option.{none, some, none-ne-some, some-injective}
use Prim.Native.Nat.{ℕ, zero, suc, ◌+◌, ◌≤◌, ◌<◌}
use native.Mathlib.Nat.{not-suc-le-zero}
use native.Mathlib.Omega.{arith}
use lib.Dec.{eqb, ltb}
use lib.ListN.{get_or, take, drop, set}
use lib.Seq.{set-get_or, split_at}
use borrow.Author.Tests.{ltb-true, ltb-false, eqb-true, eqb-false, lt-ltb, le-ltb, eq-eqb, ne_eqb, not-false}
use Rattle.history.specs.declared.record.Op.{Op}
use Rattle.history.specs.declared.record.Op.TheVariants.{Write, Read, Push, Pop, Peek}
use Rattle.certificate.specs.declared.record.Criterion.{Criterion}
use Rattle.certificate.specs.declared.record.Criterion.TheVariants.{Pram, Weak, Causal, Converge, Sequential, Strict}
use Rattle.certificate.specs.Criteria.{has_pasts}
use Rattle.layout.proofs.Cases.{true-and}
use Rattle.criteria.specs.Tests.{any, table, up_to, keep, one, count, mem, place, RisingFrom}
use Rattle.criteria.specs.Object.{after}
use Rattle.criteria.specs.History.{History, size, event, object, program_order, CausalOrder, IsView, Extends, is_event, past_with, only}
use Rattle.criteria.specs.Replay.{Contents, start, changed, after_all, Right, Replays}
use Rattle.criteria.specs.Certificate.{Certificate, order, Readable}
use Rattle.criteria.specs.Check.{check}
use Rattle.criteria.specs.Weaken.{precedes, own_part}
use Rattle.criteria.specs.OneLine.{is_update, update, tally, updates_before, line_place, by_place, one_line, crosses, in_one_line}
use Rattle.criteria.proofs.Lists.{by-test, clash, and-true, or-true, true-or-left, true-or-right, same_test, below_suc, any_none, at_head, count-append, count-keep, one-suc, count-up_to, mem-keep, keep-mem, mem-get_or, Once, once-of-count, mem-of-count, place_in, place-get_or, mem-take, take-mem, once-take, once-keep, rising-keep}
use Rattle.criteria.proofs.Orders.{Ordered, extends-ordered, ordered-extends, ordered-keep, ordered-append, ordered-take, ordered-less, ordered-place, one-order, rising-ordered}
use Rattle.criteria.proofs.Loops.{replays-at, right-replays}
use Rattle.criteria.proofs.Check.{Good, program-parts, program-causal, check-good}
use Rattle.criteria.proofs.Meeting.{FewProcesses}
use Rattle.criteria.proofs.Weaken.{Accepted, causal-weak, converge-weak, strict-causal, from-built}

-- ---- how many numbers pass a test

-- where one test passes the other does
tally-le : (n : ℕ) (P Q : ℕ → Bool) → ((i : ℕ) → i < n → P i ≡ true → Q i ≡ true) → tally n P ≤ tally n Q
tally-le zero P Q f = omega arith
tally-le (suc n) P Q f =
    let r = tally-le n P Q (λ i l. f i (omega arith)) in
    go r (P n) (Q n) (f n (omega arith))
  where
    go : tally n P ≤ tally n Q → (a b : Bool) → (a ≡ true → b ≡ true) → tally n P + one a ≤ tally n Q + one b
    go r true true g = omega arith
    go r true false g = absurd (false≢true (g refl))
    go r false b g = omega arith

-- and at x only the other
tally-lt : (n : ℕ) (P Q : ℕ → Bool) (x : ℕ) → x < n → P x ≡ false → Q x ≡ true → ((i : ℕ) → i < n → P i ≡ true → Q i ≡ true)
    → tally n P < tally n Q
tally-lt zero P Q x l p q f = absurd (not-suc-le-zero l)
tally-lt (suc n) P Q x l p q f =
    below_suc x n l
    (λ m. go (tally-lt n P Q x m p q (λ i k. f i (omega arith))) (P n) (Q n) (f n (omega arith)))
    (λ e. let r = tally-le n P Q (λ i k. f i (omega arith)) in
    rw (ap P (sym e) ∙ p, ap Q (sym e) ∙ q) (here r))
  where
    go : tally n P < tally n Q → (a b : Bool) → (a ≡ true → b ≡ true) → tally n P + one a < tally n Q + one b
    go r true true g = omega arith
    go r true false g = absurd (false≢true (g refl))
    go r false b g = omega arith

    here : tally n P ≤ tally n Q → tally n P + 0 < tally n Q + 1
    here r = omega arith

pub tally-most : (n : ℕ) (P : ℕ → Bool) → tally n P ≤ n
tally-most zero P = omega arith
tally-most (suc n) P = let r = tally-most n P in go r (P n)
  where
    go : tally n P ≤ n → (b : Bool) → tally n P + one b ≤ suc n
    go r true = omega arith
    go r false = omega arith

-- ---- numbers by their places

-- a has the lower place of the two, or the same place and the lower number
abbrev sooner : (ℕ → ℕ) → ℕ → ℕ → Bool
sooner at a b = ltb (at a) (at b) || (eqb (at a) (at b) && ltb a b)

module _ (at : ℕ → ℕ) where
  lower-sooner : (a b : ℕ) → at a < at b → sooner at a b ≡ true
  lower-sooner a b l = true-or-left (eqb (at a) (at b) && ltb a b) (lt-ltb (at a) (at b) l)

  sooner-parts : (a b : ℕ) → sooner at a b ≡ true → (at a < at b) ⊎ ((at a ≡ at b) × (a < b))
  sooner-parts a b t = go (or-true (ltb (at a) (at b)) (eqb (at a) (at b) && ltb a b) t)
    where
      go : (ltb (at a) (at b) ≡ true) ⊎ (eqb (at a) (at b) && ltb a b ≡ true) → (at a < at b) ⊎ ((at a ≡ at b) × (a < b))
      go (inl s) = inl (ltb-true (at a) (at b) s)
      go (inr s) = let p = and-true (eqb (at a) (at b)) (ltb a b) s in inr (eqb-true (at a) (at b) p.0, ltb-true a b p.1)

  -- numbers of one place, rising
  one-place-ordered : (m b : ℕ) (l : List ℕ) → ((e : ℕ) → mem e l ≡ true → at e ≡ m) → RisingFrom b l → Ordered (sooner at) l
  one-place-ordered m b l p r =
      ordered-less ltb (sooner at) l (λ e f s t q. lt-ltb e f (go e f (p e s) (p f t) (sooner-parts e f q))) (rising-ordered ltb ltb-true b l r)
    where
      go : (e f : ℕ) → at e ≡ m → at f ≡ m → (at e < at f) ⊎ ((at e ≡ at f) × (e < f)) → e < f
      go e f p q (inl s) = absurd (omega arith)
      go e f p q (inr s) = s.1

  module _ (n : ℕ) where
    -- each of the first n numbers whose place is below m stands in the list once, and no other number
    pub count-by_place : (m e : ℕ) → count e (by_place n at m) ≡ one (ltb e n && ltb (at e) m)
    count-by_place zero e = rw (le-ltb (at e) 0 (omega arith)) (none (ltb e n))
      where
        none : (b : Bool) → 0 ≡ one (b && false)
        none true = refl
        none false = refl
    count-by_place (suc m) e =
        count-append e (by_place n at m) (keep (λ f. eqb (at f) m) (up_to n))
        ∙ ap₂ (λ (i j : ℕ). i + j) (count-by_place m e) (count-keep (λ f. eqb (at f) m) e (up_to n) ∙ ap (λ (i : ℕ). cond (eqb (at e) m) i 0) (count-up_to e n))
        ∙ go (ltb e n)
      where
        as_one : (b : Bool) → cond b 1 0 ≡ one b
        as_one true = refl
        as_one false = refl

        flat : (b : Bool) → 0 + cond b 0 0 ≡ 0
        flat true = refl
        flat false = refl

        go : (b : Bool) → one (b && ltb (at e) m) + cond (eqb (at e) m) (one b) 0 ≡ one (b && ltb (at e) (suc m))
        go true = ap (λ (i : ℕ). one (ltb (at e) m) + i) (as_one (eqb (at e) m)) ∙ one-suc (at e) m
        go false = flat (eqb (at e) m)

    by_place-below : (m e : ℕ) → mem e (by_place n at m) ≡ true → at e < m
    by_place-below m e t =
        ltb-true (at e) m
        (and-true (ltb e n) (ltb (at e) m)
        (sym (mem-of-count e (by_place n at m) (ltb e n && ltb (at e) m) (count-by_place m e)) ∙ t)).1

    one_place : (m e : ℕ) → mem e (keep (λ f. eqb (at f) m) (up_to n)) ≡ true → at e ≡ m
    one_place m e t = eqb-true (at e) m (mem-keep (λ f. eqb (at f) m) e (up_to n) t).0

    by_place-ordered : (m : ℕ) → Ordered (sooner at) (by_place n at m)
    by_place-ordered zero = tt
    by_place-ordered (suc m) =
        ordered-append (sooner at) (by_place n at m) (keep (λ f. eqb (at f) m) (up_to n)) (by_place-ordered m)
        (one-place-ordered m 0 (keep (λ f. eqb (at f) m) (up_to n)) (one_place m) (rising-keep (λ f. eqb (at f) m) n))
        (λ e f s t. by-test (sooner at e f) (λ u. absurd (go e f (one_place m e s) (by_place-below m f t) (sooner-parts e f u))) (λ u. u))
      where
        go : (e f : ℕ) → at e ≡ m → at f < m → (at e < at f) ⊎ ((at e ≡ at f) × (e < f)) → ⊥
        go e f p q (inl s) = omega arith
        go e f p q (inr s) = let z = s.0 in omega arith

-- ---- only updates change anything

-- an event that is no update leaves everything as it is
unchanged : (h : History) (s : Contents) (e : ℕ) → update h e ≡ false → changed h s e ≡ s
unchanged h s e = go (event h e).op
  where
    go : (p : Op) → is_update p ≡ false
        → set s (event h e).object (after (object h (event h e).object) p (event h e).value (get_or s (event h e).object [])) ≡ s
    go Write t = absurd (true≢false t)
    go Read t = set-get_or s (event h e).object []
    go Push t = absurd (true≢false t)
    go Pop t = absurd (true≢false t)
    go Peek t = set-get_or s (event h e).object []

-- what is there after a view is there after its updates alone
updates-only : (h : History) (s : Contents) (v : List ℕ) → after_all h s v ≡ after_all h s (keep (update h) v)
updates-only h s [] = refl
updates-only h s (e ∷ v) =
    by-test (update h e)
    (λ t. rw t (updates-only h (changed h s e) v))
    (λ t. rw t (ap (λ (z : Contents). after_all h z v) (unchanged h s e t) ∙ updates-only h s v))

-- ---- the one line

-- of every two updates one is before the other
abbrev UpdatesOrdered : History → (ℕ → ℕ → Bool) → Type 0
UpdatesOrdered h R =
    (a b : ℕ) → a < size h → b < size h → update h a ≡ true → update h b ≡ true → (a ≡ b → ⊥) → (R a b ≡ true) ⊎ (R b a ≡ true)

module _ (h : History) (R : ℕ → ℕ → Bool) (o : CausalOrder h R) (u : UpdatesOrdered h R) where
  -- the number of updates before an event
  before : ℕ → ℕ
  before e = updates_before h R e

  still_before : (a b : ℕ) → R a b ≡ true → (f : ℕ) → f < size h → R f a && update h f ≡ true → R f b && update h f ≡ true
  still_before a b t f l s = let p = and-true (R f a) (update h f) s in true-and (o.transitive f a b p.0 t) p.1

  more-before : (a b : ℕ) → R a b ≡ true → before a ≤ before b
  unfolding updates_before before
  more-before a b t = tally-le (size h) (λ f. R f a && update h f) (λ f. R f b && update h f) (still_before a b t)

  update-before : (a b : ℕ) → R a b ≡ true → update h a ≡ true → before a < before b
  unfolding updates_before before
  update-before a b t q =
      tally-lt (size h) (λ f. R f a && update h f) (λ f. R f b && update h f) a (o.of_events a b t).0
      (rw (o.irreflexive a) refl) (true-and t q) (still_before a b t)

  -- an update that is not before e has all updates before e before it
  not-before : (f e : ℕ) → f < size h → update h f ≡ true → R f e ≡ false → before e ≤ before f
  unfolding updates_before before
  not-before f e l q t =
      tally-le (size h) (λ g. R g e && update h g) (λ g. R g f && update h g)
      (λ g m s. let p = and-true (R g e) (update h g) s in
      true-and
      (at_head g f (λ _ z. clash p.0 (ap (λ (i : ℕ). R i e) z ∙ t))
      (λ _ z. go g p.0 (u g f m l p.1 q z)))
      p.1)
    where
      go : (g : ℕ) → R g e ≡ true → (R g f ≡ true) ⊎ (R f g ≡ true) → R g f ≡ true
      go g p (inl s) = s
      go g p (inr s) = clash (o.transitive f g e s p) t

  -- two updates do not have equally many before them
  updates-apart : (f e : ℕ) → f < size h → e < size h → update h f ≡ true → update h e ≡ true → (f ≡ e → ⊥) → before f ≡ before e → ⊥
  updates-apart f e l m p q z s = go (u f e l m p q z)
    where
      go : (R f e ≡ true) ⊎ (R e f ≡ true) → ⊥
      go (inl t) = let r = update-before f e t p in omega arith
      go (inr t) = let r = update-before e f t q in omega arith

  -- the place of an event in the line
  at : ℕ → ℕ
  at e = line_place h R e

  at-update : (e : ℕ) → update h e ≡ true → at e ≡ before e + before e + 1
  unfolding at line_place before
  at-update e t = rw t refl

  at_other : (e : ℕ) → update h e ≡ false → at e ≡ before e + before e
  unfolding at line_place before
  at_other e t = rw t (omega arith)

  at_least : (e : ℕ) → before e + before e ≤ at e
  unfolding at line_place before
  at_least e = omega arith

  at_most : (e : ℕ) → at e ≤ before e + before e + 1
  unfolding at line_place before
  at_most e = go (update h e)
    where
      go : (b : Bool) → updates_before h R e + updates_before h R e + one b ≤ updates_before h R e + updates_before h R e + 1
      go true = omega arith
      go false = omega arith

  at-below : (e : ℕ) → at e < size h + size h + 2
  unfolding before updates_before
  at-below e = let a = at_most e in let b = tally-most (size h) (λ f. R f e && update h f) in omega arith

  -- all events in one line
  line : List ℕ
  line = one_line h R

  line-is_view : IsView (is_event h) line
  unfolding IsView line one_line at
  line-is_view e = count-by_place at (size h) (size h + size h + 2) e ∙ ap one (go (ltb e (size h)))
    where
      go : (b : Bool) → b && ltb (at e) (size h + size h + 2) ≡ b
      go true = lt-ltb (at e) (size h + size h + 2) (at-below e)
      go false = refl

  line-once : Once line
  unfolding IsView
  line-once = once-of-count (is_event h) line line-is_view

  line-mem : (e : ℕ) → e < size h → mem e line ≡ true
  unfolding IsView
  line-mem e l = mem-of-count e line (is_event h e) (line-is_view e) ∙ lt-ltb e (size h) l

  line-event : (e : ℕ) → mem e line ≡ true → e < size h
  unfolding IsView
  line-event e t = ltb-true e (size h) (sym (mem-of-count e line (is_event h e) (line-is_view e)) ∙ t)

  line-ordered : Ordered (sooner at) line
  unfolding line one_line at
  line-ordered = by_place-ordered (line_place h R) (size h) (size h + size h + 2)

  lower-first : (a b : ℕ) → a < size h → b < size h → at a < at b → place a line < place b line
  lower-first a b l m t = ordered-place (sooner at) line line-ordered a b (line-mem a l) (line-mem b m) (lower-sooner at a b t)

  line-program : Extends (program_order h) line
  line-program =
      ordered-extends (program_order h) line
      (ordered-less (sooner at) (program_order h) line (λ a b _ _ t. go a b (program-parts h a b t).0 (o.program a b t)) line-ordered)
    where
      go : (a b : ℕ) → a < b → R a b ≡ true → sooner at a b ≡ true
      go a b l t =
          by-test (ltb (at a) (at b)) (λ s. lower-sooner at a b (ltb-true (at a) (at b) s))
          (λ s. let g = ltb-false (at a) (at b) s in
          let c = more-before a b t in
          let d = at_least b in
          by-test (update h a)
          (λ q. let x = update-before a b t q in let y = at_most a in absurd (omega arith))
          (λ q. let x = at_other a q in
          true-or-right (ltb (at a) (at b)) (true-and (eq-eqb (at a) (at b) (omega arith)) (lt-ltb a b l))))

  -- the updates in front of an event in the line are those of its past
  in-front : (f e : ℕ) → f < size h → e < size h → update h f ≡ true → place f line < place e line → R f e ≡ true
  in-front f e l m p t =
      by-test (R f e) (λ s. s)
      (λ s. let a = not-before f e l p s in
      let b = at-update f p in
      absurd (at_head f e (λ _ q. let z : place f line ≡ place e line = ap (λ (i : ℕ). place i line) q in omega arith)
      (λ _ q. by-test (update h e)
      (λ c. let x = at-update e c in
      by-test (eqb (before f) (before e)) (λ y. updates-apart f e l m p c q (eqb-true (before f) (before e) y))
      (λ y. let n = eqb-false (before f) (before e) y in let z = lower-first e f m l (omega arith) in omega arith))
      (λ c. let x = at_other e c in let z = lower-first e f m l (omega arith) in omega arith))))

  front_of : (f e : ℕ) → update h f ≡ true → R f e ≡ true → place f line < place e line
  front_of f e p t =
      let a = update-before f e t p in
      let b = at-update f p in
      let c = at_least e in
      let i = o.of_events f e t in
      lower-first f e i.0 i.1 (omega arith)

  update-seen : (f e : ℕ) → f < size h → e < size h → update h f ≡ true → precedes line f e ≡ R f e
  unfolding precedes
  update-seen f e l m t =
      same_test (precedes line f e) (R f e)
      (λ s. in-front f e l m t (ltb-true (place f line) (place e line) (and-true (mem e line) (ltb (place f line) (place e line)) s).1))
      (λ s. true-and (line-mem e m) (lt-ltb (place f line) (place e line) (front_of f e t s)))

  -- reads and peeks that saw the same updates stand by rising number
  rising-seen : (f e : ℕ) → f < e → e < size h → update h f ≡ false → update h e ≡ false
      → ((g : ℕ) → g < size h → update h g ≡ true → R g f ≡ R g e) → precedes line f e ≡ true
  unfolding precedes before updates_before
  rising-seen f e l m s t q =
      let a = tally-le (size h) (λ g. R g f && update h g) (λ g. R g e && update h g)
      (λ g k z. let p = and-true (R g f) (update h g) z in true-and (sym (q g k p.1) ∙ p.0) p.1) in
      let b = tally-le (size h) (λ g. R g e && update h g) (λ g. R g f && update h g)
      (λ g k z. let p = and-true (R g e) (update h g) z in true-and (q g k p.1 ∙ p.0) p.1) in
      let x = at_other f s in
      let y = at_other e t in
      true-and (line-mem e m)
      (lt-ltb (place f line) (place e line)
      (ordered-place (sooner at) line line-ordered f e (line-mem f (omega arith)) (line-mem e m)
      (true-or-right (ltb (at f) (at e)) (true-and (eq-eqb (at f) (at e) (omega arith)) (lt-ltb f e l)))))

  -- the pasts and views of a weak certificate
  module _ (vs : List (List ℕ)) (g : Good h Weak R vs) where
    -- an event's own view
    view : ℕ → List ℕ
    view e = get_or vs e []

    view-past : (e : ℕ) → e < size h → (f : ℕ) → mem f (view e) ≡ past_with R e f
    unfolding IsView view
    view-past e l f = mem-of-count f (view e) (past_with R e f) (g.is_view e l f)

    view-self : (e : ℕ) → e < size h → mem e (view e) ≡ true
    view-self e l = view-past e l e ∙ true-or-right (R e e) (eq-eqb e e refl)

    -- what stands in front of an event in its own view is its past
    past-in-front : (e : ℕ) → e < size h → (f : ℕ) → R f e ≡ true → (mem f (view e) ≡ true) × (place f (view e) < place e (view e))
    unfolding view
    past-in-front e l f t =
        let m = view-past e l f ∙ true-or-left (eqb f e) t in
        (m, ordered-place R (view e) (extends-ordered R (view e) (g.extends e l)) f e m (view-self e l) t)

    front-in-past : (e : ℕ) → e < size h → (f : ℕ) → mem f (view e) ≡ true → place f (view e) < place e (view e) → R f e ≡ true
    front-in-past e l f m t = go (or-true (R f e) (eqb f e) (sym (view-past e l f) ∙ m))
      where
        go : (R f e ≡ true) ⊎ (eqb f e ≡ true) → R f e ≡ true
        go (inl s) = s
        go (inr s) = let z : place f (view e) ≡ place e (view e) = ap (λ (i : ℕ). place i (view e)) (eqb-true f e s) in absurd (omega arith)

    -- the updates in front of an event are the same in the line and in its own view, in the same order
    same-updates : (e : ℕ) → e < size h → keep (update h) (take (place e line) line) ≡ keep (update h) (take (place e (view e)) (view e))
    unfolding view IsView
    same-updates e l =
        one-order R (keep (update h) (take (place e line) line)) (keep (update h) (take (place e (view e)) (view e)))
        (once-keep (update h) (take (place e line) line) (once-take (place e line) line line-once))
        (once-keep (update h) (take (place e (view e)) (view e))
        (once-take (place e (view e)) (view e) (once-of-count (past_with R e) (view e) (g.is_view e l))))
        (ordered-less (sooner at) R (keep (update h) (take (place e line) line))
        (λ a b s _ t. let p = (mem-keep (update h) a (take (place e line) line) s).0 in
        let x = update-before a b t p in
        let y = at-update a p in
        let z = at_least b in
        lower-sooner at a b (omega arith))
        (ordered-keep (sooner at) (update h) (take (place e line) line) (ordered-take (sooner at) (place e line) line line-ordered)))
        (ordered-keep R (update h) (take (place e (view e)) (view e))
        (ordered-take R (place e (view e)) (view e) (extends-ordered R (view e) (g.extends e l))))
        (λ a b s t z.
        let p = mem-keep (update h) a (take (place e line) line) s in
        let q = mem-keep (update h) b (take (place e line) line) t in
        u a b (line-event a (take-mem a (place e line) line p.1).0) (line-event b (take-mem b (place e line) line q.1).0) p.0 q.0 z)
        (λ f. same_test (mem f (keep (update h) (take (place e line) line))) (mem f (keep (update h) (take (place e (view e)) (view e))))
        (λ t. let p = mem-keep (update h) f (take (place e line) line) t in
        let q = take-mem f (place e line) line p.1 in
        let r = past-in-front e l f (in-front f e (line-event f q.0) l p.0 q.1) in
        keep-mem (update h) f (take (place e (view e)) (view e)) p.0 (mem-take f (place e (view e)) (view e) r.0 r.1))
        (λ t. let p = mem-keep (update h) f (take (place e (view e)) (view e)) t in
        let q = take-mem f (place e (view e)) (view e) p.1 in
        let r = front-in-past e l f q.0 q.1 in
        keep-mem (update h) f (take (place e line) line) p.0
        (mem-take f (place e line) line (line-mem f (o.of_events f e r).0) (front_of f e p.0 r))))

    -- so its answer is right in the line
    right-at : (e : ℕ) → e < size h → Right h (after_all h (start h) (take (place e line) line)) e
    unfolding view
    right-at e l =
        subst (λ (s : Contents). Right h s e)
        (updates-only h (start h) (take (place e (view e)) (view e))
        ∙ ap (after_all h (start h)) (sym (same-updates e l))
        ∙ sym (updates-only h (start h) (take (place e line) line)))
        (replays-at h (only e) (start h) (take (place e (view e)) (view e)) e (drop (suc (place e (view e))) (view e))
        (subst (Replays h (only e) (start h)) split (g.replays e l)) (eq-eqb e e refl))
      where
        split : view e ≡ take (place e (view e)) (view e) ++ (e ∷ drop (suc (place e (view e))) (view e))
        split =
            let p = place_in e (view e) (view-self e l) in
            split_at (view e) (place e (view e)) 0 p.0
            ∙ ap (λ (x : ℕ). take (place e (view e)) (view e) ++ (x ∷ drop (suc (place e (view e))) (view e))) p.1

    one_line-good : Good h Sequential (program_order h) (one_line h R ∷ [])
    unfolding line
    one_line-good = record {
      causal_order = program-causal h;
      is_view = λ k l. subst (IsView (is_event h)) (sym (single k l)) line-is_view;
      extends = λ k l. subst (Extends (program_order h)) (sym (single k l)) line-program;
      only_past = λ t. absurd (false≢true t);
      replays = λ k l. subst (Replays h (λ _. true) (start h)) (sym (single k l))
          (right-replays h (λ _. true) (start h) line
          (λ i m _. let q = place-get_or line i line-once m in
          subst (λ (j : ℕ). Right h (after_all h (start h) (take j line)) (get_or line i 0)) q (right-at (get_or line i 0) (line-event (get_or line i 0) (mem-get_or line i m)))));
    }
      where
        single : (k : ℕ) → k < 1 → get_or (one_line h R ∷ []) k [] ≡ one_line h R
        single k l = subst (λ (j : ℕ). get_or (one_line h R ∷ []) j [] ≡ one_line h R) (let q : 0 ≡ k = omega arith in q) refl

-- ---- the certificate

-- no two updates cross
crosses-none : (h : History) (R : ℕ → ℕ → Bool) → crosses h R ≡ false → UpdatesOrdered h R
unfolding crosses
crosses-none h R c a b l m p q z =
    or-true (R a b) (R b a)
    (not-false (R a b || R b a)
    (strip q (ne_eqb a b z)
    (any_none (size h) (λ b. update h b && not (eqb a b) && not (R a b || R b a))
    (first p (any_none (size h) (λ a. update h a && any (size h) (λ b. update h b && not (eqb a b) && not (R a b || R b a))) c a l)) b m)))
  where
    first : update h a ≡ true → {t : Bool} → update h a && t ≡ false → t ≡ false
    first x t = cc

    strip : update h b ≡ true → eqb a b ≡ false
        → update h b && not (eqb a b) && not (R a b || R b a) ≡ false → not (R a b || R b a) ≡ false
    strip y w t = cc

-- a certificate that has a line has pasts, and this is the certificate of the line
in-line-parts : (h : History) (c d : Certificate) → in_one_line h c ≡ some d
    → (has_pasts c.criterion ≡ true) × (record { criterion = Sequential; pasts = []; views = one_line h (order h c) ∷ [] } ≡ d)
unfolding in_one_line
in-line-parts h c d q = go (has_pasts c.criterion) refl q
  where
    made : Certificate
    made = record { criterion = Sequential; pasts = []; views = one_line h (order h c) ∷ [] }

    go : (b : Bool) → has_pasts c.criterion ≡ b → cond b (some made) none ≡ some d → (has_pasts c.criterion ≡ true) × (made ≡ d)
    go true t r = (t, some-injective made d r)
    go false t r = absurd (none-ne-some d r)

-- what has pasts is a weak certificate with other views
pasts-weak : (w : Criterion) (h : History) (R : ℕ → ℕ → Bool) (vs : List (List ℕ)) → FewProcesses h → has_pasts w ≡ true → Good h w R vs
    → (us : List (List ℕ)) × Good h Weak R us
pasts-weak Sequential h R vs f t g = absurd (false≢true t)
pasts-weak Pram h R vs f t g = absurd (false≢true t)
pasts-weak Weak h R vs f t g = (vs, g)
pasts-weak Causal h R vs f t g = (vs, causal-weak h R vs g)
pasts-weak Converge h R vs f t g = (table (size h) (λ e. keep (past_with R e) (get_or vs 0 [])), converge-weak h R vs g)
pasts-weak Strict h R vs f t g =
    (table (size h) (own_part h vs), causal-weak h R (table (size h) (own_part h vs)) (strict-causal h R vs f g))

-- the sequential certificate of the line is accepted
pub one-line-accepted : (h : History) (c d : Certificate) → FewProcesses h → Readable h c → check h c ≡ none → crosses h (order h c) ≡ false
    → in_one_line h c ≡ some d → Accepted h Sequential d
one-line-accepted h c d f rd e x q =
    let p = in-line-parts h c d q in
    let g = check-good h c rd e in
    let u = pasts-weak c.criterion h (order h c) c.views f p.0 g in
    subst (Accepted h Sequential) p.1
    (from-built h Sequential (program_order h) (one_line h (order h c) ∷ []) refl (λ _. refl)
    (one_line-good h (order h c) g.causal_order (crosses-none h (order h c) x) u.0 u.1))

-- in the line an update stands before an event exactly if it is in that event's past
pub line-seen : (h : History) (c : Certificate) → Readable h c → check h c ≡ none → crosses h (order h c) ≡ false
    → (f e : ℕ) → f < size h → e < size h → update h f ≡ true → precedes (one_line h (order h c)) f e ≡ order h c f e
unfolding line
line-seen h c rd a x f e l m t =
    update-seen h (order h c) (check-good h c rd a).causal_order (crosses-none h (order h c) x) f e l m t

-- and reads and peeks that saw the same updates stand by rising number
pub line-rising : (h : History) (c : Certificate) → Readable h c → check h c ≡ none → crosses h (order h c) ≡ false
    → (f e : ℕ) → f < e → e < size h → update h f ≡ false → update h e ≡ false
    → ((g : ℕ) → g < size h → update h g ≡ true → order h c g f ≡ order h c g e) → precedes (one_line h (order h c)) f e ≡ true
unfolding line
line-rising h c rd a x f e l m s t q =
    rising-seen h (order h c) (check-good h c rd a).causal_order (crosses-none h (order h c) x) f e l m s t q
