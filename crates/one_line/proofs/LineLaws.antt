-- The line of the events by their places, one event and one place at a time. Assumes nothing.
use mathlib.Core.Path.{◌≡◌, refl, sym, ap, ap₂, ◌∙◌}
use mathlib.Core.Bool.{Bool, false, ◌&&◌}
use mathlib.Core.List.{List, [], ◌∷◌, ◌++◌, append-nil, append_assoc}
use Prim.Native.Nat.{ℕ, zero, suc, ◌+◌, ◌/◌, ◌%◌, ◌^◌, ◌≤◌, ◌<◌}
use native.Mathlib.Nat.{add_assoc, pow-suc}
use native.Mathlib.Numerals.{add-one}
use native.Mathlib.Omega.{arith}
use lib.Dec.{eqb, ltb}
use lib.Count.{ones, ones_in, ones_step}
use lib.ListN.{length, length-append}
use Rattle.std.proofs.lemmas.Nat.Bits.{bit_at_lowest, bit_at-suc}
use borrow.Author.Tests.{ltb-true, eq-eqb, ne_eqb}
use Rattle.layout.proofs.Cases.{by-eq}
use Rattle.certificate.specs.declared.record.EventList.{EventList}
use Rattle.certificate.specs.Record.{event_list_of}
use Rattle.criteria.specs.Tests.{up_to, keep_if, keep, one}
use Rattle.criteria.specs.OneLine.{tally, by_place}
use Rattle.criteria.proofs.Lists.{and-true, mem-of-count, once-of-count, length-once, keep_append}
use Rattle.criteria.proofs.OneLine.{tally-most, count-by_place}
use Rattle.orders.specs.Rows.{in_row}

-- ---- how many pass
tally-first : (n : ℕ) (f : ℕ → Bool) → tally (suc n) f ≡ one (f 0) + tally n (λ i. f (suc i))
tally-first zero f = omega arith
tally-first (suc n) f = ap (λ (k : ℕ). k + one (f (suc n))) (tally-first n f) ∙ add_assoc (one (f 0)) (tally n (λ i. f (suc i))) (one (f (suc n)))

pub tally-same : (n : ℕ) (f g : ℕ → Bool) → ((i : ℕ) → i < n → f i ≡ g i) → tally n f ≡ tally n g
tally-same zero f g h = refl
tally-same (suc n) f g h = ap₂ (λ (i j : ℕ). i + j) (tally-same n f g (λ i l. h i (omega arith))) (ap one (h n (omega arith)))

-- none passes from n on
pub tally-beyond : (m n : ℕ) (f : ℕ → Bool) → n ≤ m → ((i : ℕ) → n ≤ i → f i ≡ false) → tally m f ≡ tally n f
tally-beyond zero n f l h = let q : n ≡ 0 = omega arith in rw q refl
tally-beyond (suc m) n f l h =
    by-eq n (suc m) (λ q. rw q refl)
    (λ q. rw (h m (omega (arith, q))) (let r : tally m f + 0 ≡ tally m f = omega arith in r ∙ tally-beyond m n f (omega (arith, q)) h))

-- the ones of a number are the events of its row
lowest : (m : ℕ) → one (in_row m 0) ≡ m % 2
unfolding in_row
lowest m = ap (λ (d : ℕ). one (eqb d 1)) (bit_at_lowest m) ∙ go (m % 2) (omega arith)
  where
    go : (d : ℕ) → d < 2 → one (eqb d 1) ≡ d
    go zero h = refl
    go (suc zero) h = refl
    go (suc (suc d)) h = absurd (omega arith)

above : (m i : ℕ) → in_row m (suc i) ≡ in_row (m / 2) i
unfolding in_row
above m i = ap (λ (d : ℕ). eqb d 1) (bit_at-suc m i)

pub ones-tally : (k m : ℕ) → m < 2 ^ k → ones m ≡ tally k (in_row m)
unfolding ones ones_in
ones-tally zero m h = let z : m ≡ 0 = omega (arith, h) in rw z refl
ones-tally (suc k) m h =
    ones_step m
    ∙ ap₂ (λ (i j : ℕ). i + j) (sym (lowest m)) (ones-tally k (m / 2) (omega (arith, h, pow-suc 2 k)) ∙ tally-same k (in_row (m / 2)) (λ i. in_row m (suc i)) (λ i l. sym (above m i)))
    ∙ sym (tally-first k (in_row m))

pub few-events : (row : ℕ) → tally 64 (in_row row) ≤ 64
few-events row = tally-most 64 (in_row row)

-- ---- the line
module _ (n : ℕ) (at : ℕ → ℕ) where
  -- those at place m
  abbrev pub here : ℕ → ℕ → Bool
  here m e = eqb (at e) m

  pub few-in-line : (m : ℕ) → length (by_place n at m) ≤ n
  few-in-line m =
      length-once n (by_place n at m)
      (λ e t. ltb-true e n (and-true (ltb e n) (ltb (at e) m) (sym (mem-of-count e (by_place n at m) (ltb e n && ltb (at e) m) (count-by_place at n m e)) ∙ t)).0)
      (once-of-count (λ e. ltb e n && ltb (at e) m) (by_place n at m) (count-by_place at n m))

  -- the line so far: all places below m, and those of the first e events that are at m
  abbrev pub line_to : ℕ → ℕ → List ℕ
  line_to m e = by_place n at m ++ keep (here m) (up_to e)

  -- event e is put behind the line if it is at m
  line-more : (m e : ℕ) → line_to m (suc e) ≡ line_to m e ++ keep_if (here m e) e []
  line-more m e =
      ap (λ (l : List ℕ). by_place n at m ++ l) (keep_append (here m) (up_to e) (e ∷ []))
      ∙ sym (append_assoc (by_place n at m) (keep (here m) (up_to e)) (keep_if (here m e) e []))

  -- the line only grows, so that it is never longer than n
  grows : (m i k : ℕ) → i ≤ k → length (line_to m i) ≤ length (line_to m k)
  grows m i zero l = let q : i ≡ 0 = omega arith in rw q (omega arith)
  grows m i (suc k) l =
      by-eq i (suc k) (λ q. rw q (omega arith))
      (λ q. let g = grows m i k (omega (arith, q)) in
      let a = ap length (line-more m k) ∙ length-append (line_to m k) (keep_if (here m k) k []) in
      omega (arith, g, a))

  pub line-few : (m e : ℕ) → e ≤ n → length (line_to m e) ≤ n
  line-few m e l = let g = grows m e n l in let f = few-in-line (suc m) in omega (arith, g, f)

  -- event e, one of those that are left, is at m: it is put behind the line
  module _ (few : n ≤ 64) (m e : ℕ) (line : EventList) (k : line ≡ event_list_of (line_to m e)) (h : e < n) (q : at e ≡ m) where
    put : line_to m (suc e) ≡ line_to m e ++ (e ∷ [])
    put = line-more m e ∙ ap (λ (b : Bool). line_to m e ++ keep_if b e []) (eq-eqb (at e) m q)

    longer : length (line_to m (suc e)) ≡ length (line_to m e) + 1
    longer = ap length put ∙ length-append (line_to m e) (e ∷ [])

    counts : line.count ≡ length (line_to m e)
    unfolding event_list_of
    counts = ap (λ (x : EventList). x.count) k

    pub put-room : line.count < 64
    put-room = let f = line-few m (suc e) h in omega (arith, f, counts, longer, few)

    pub put_line : event_list_of (line_to m e ++ e ∷ []) ≡ event_list_of (line_to m (e + 1))
    put_line = ap event_list_of (rw (add-one e) (sym put))

  -- event e is at another place
  pub same_line : (m e : ℕ) → (at e ≡ m → ⊥) → event_list_of (line_to m e) ≡ event_list_of (line_to m (e + 1))
  same_line m e q =
      ap event_list_of (rw (add-one e)
      (sym (line-more m e ∙ ap (λ (b : Bool). line_to m e ++ keep_if b e []) (ne_eqb (at e) m q) ∙ append-nil (line_to m e))))

  -- there is room for it
  pub line-room : (m : ℕ) (l : EventList) → l ≡ event_list_of (by_place n at m) → n ≤ 64 → l.count ≤ 64
  unfolding event_list_of
  line-room m l q few = let k = ap (λ (x : EventList). x.count) q in let f = few-in-line m in omega (arith, k, f, few)
