-- What the loops over a view need: its entries marked off one by one against a set, and each entry tested against those from it on.
-- Assumes nothing.
use mathlib.Core.Path.{◌≡◌, refl, sym, ap, ap₂, subst, ◌∙◌}
use mathlib.Core.Bool.{Bool, true, false, not, ◌&&◌, ◌||◌}
use mathlib.Core.List.{List, [], ◌∷◌}
use Prim.Native.Nat.{ℕ, zero, suc, ◌+◌, ◌≤◌, ◌<◌}
use native.Mathlib.Nat.{not-suc-le-zero, le_of_suc-le-suc}
use native.Mathlib.Numerals.{add-one}
use native.Mathlib.Omega.{arith}
use lib.Dec.{eqb, ltb, eqb-suc-zero, eqb-suc-suc}
use lib.ListN.{length, get_or, take, drop}
use lib.Seq.{drop-cons, get_or-take}
use Rattle.std.proofs.lemmas.List.{drop_all, length-take}
use borrow.Author.Tests.{eq-eqb, le-ltb, ltb-true, ltb-false, not-true, not-false, eqb-true}
use Rattle.layout.proofs.Cases.{true-and}
use Rattle.criteria.specs.Tests.{any, more, one, count, mem, place}
use Rattle.criteria.specs.Check.{not_its_set, against}
use Rattle.criteria.proofs.Lists.{by-test, clash, and-true, true-or-right, same_test, any_none, any_at, any_some, at_head, mem-get_or, Once, once-tail, once-head, count-out, place_in}
use Rattle.criteria.proofs.Loops.{mem-take-suc}
use Rattle.orders.specs.Rows.{in_row, in_rows, EventViews, view_at}
use Rattle.orders.proofs.BitLaws.{any_same}
use Rattle.orders.proofs.RowLaws.{both}

-- an event that is taken off is not in the row, and the others stay
taken-off : (b t : Bool) → t ≡ true → (b && not t) ≡ false
taken-off true t e = ap not e
taken-off false t e = refl

left_in : (b t : Bool) → t ≡ false → (b && not t) ≡ b
left_in true t e = ap not e
left_in false t e = refl

-- row' is the row without x, and the row and x more
abbrev pub Less : ℕ → ℕ → ℕ → Type 0
Less row x row' = (f : ℕ) → in_row row' f ≡ (in_row row f && not (eqb f x))

abbrev pub More : ℕ → ℕ → ℕ → Type 0
More row x row' = (f : ℕ) → in_row row' f ≡ (in_row row f || eqb f x)

-- ---- a view and its set
-- all entries are marked off: what is left is what the view lacks
pub set-end : (row : ℕ) → not_its_set 64 (in_row row) [] ≡ any 64 (in_row row)
unfolding not_its_set
set-end row = any_same 64 (λ e. not (eqb 0 (one (in_row row e)))) (in_row row) (λ e l. go (in_row row e))
  where
    go : (b : Bool) → not (eqb 0 (one b)) ≡ b
    go true = refl
    go false = refl

-- an entry that is not in the set
pub set-stops : (row : ℕ) (x : ℕ) (v : List ℕ) → x < 64 → in_row row x ≡ false → not_its_set 64 (in_row row) (x ∷ v) ≡ true
unfolding not_its_set
set-stops row x v l f =
    any_at 64 (λ e. not (eqb (count e (x ∷ v)) (one (in_row row e)))) x l (rw (f, eq-eqb x x refl, eqb-suc-zero) refl)

-- an entry that is in the set: the rest is judged against the others
pub set_on : (row row' : ℕ) (x : ℕ) (v : List ℕ) → in_row row x ≡ true → Less row x row' → not_its_set 64 (in_row row) (x ∷ v) ≡ not_its_set 64 (in_row row') v
unfolding not_its_set
set_on row row' x v t less =
    any_same 64 (λ e. not (eqb (count e (x ∷ v)) (one (in_row row e)))) (λ e. not (eqb (count e v) (one (in_row row' e))))
    (λ e l. at_head e x (λ s q. here e s q) (λ s q. rw (s, less e ∙ left_in (in_row row e) (eqb e x) s)))
  where
    here : (e : ℕ) → eqb e x ≡ true → e ≡ x → not (eqb (more (eqb e x) (count e v)) (one (in_row row e))) ≡ not (eqb (count e v) (one (in_row row' e)))
    here e s q =
        let a : in_row row e ≡ true = ap (in_row row) q ∙ t in
        let b : in_row row' e ≡ false = less e ∙ taken-off (in_row row e) (eqb e x) s in
        rw (s, a, b) (ap not (eqb-suc-suc (count e v) 0))

-- ---- a view and its order
-- two places of a view that are against the order
against-at : (R : ℕ → ℕ → Bool) (v : List ℕ) (i j : ℕ) → i < length v → j < length v → R (get_or v i 0) (get_or v j 0) ≡ true → j ≤ i → against R v ≡ true
unfolding against
against-at R v i j p q t l =
    any_at (length v) (λ i. any (length v) (λ j. R (get_or v i 0) (get_or v j 0) && not (ltb i j))) i p
    (any_at (length v) (λ j. R (get_or v i 0) (get_or v j 0) && not (ltb i j)) j q (rw (t, le-ltb i j l) refl))

against-pair : {P : Type 0} (R : ℕ → ℕ → Bool) (v : List ℕ) → against R v ≡ true
    → ((i j : ℕ) → i < length v → j < length v → R (get_or v i 0) (get_or v j 0) ≡ true → j ≤ i → P) → P
unfolding against
against-pair R v a f =
    let x = any_some (length v) (λ i. any (length v) (λ j. R (get_or v i 0) (get_or v j 0) && not (ltb i j))) a in
    let y = any_some (length v) (λ j. R (get_or v x.0 0) (get_or v j 0) && not (ltb x.0 j)) x.2 in
    let b = and-true (R (get_or v x.0 0) (get_or v y.0 0)) (not (ltb x.0 y.0)) y.2 in
    f x.0 y.0 x.1 y.1 b.0 (ltb-false x.0 y.0 (not-true (ltb x.0 y.0) b.1))

module _ (R : ℕ → ℕ → Bool) (x : ℕ) (v : List ℕ) where
  -- some entry from x on comes before x
  against-stops : (g : ℕ) → mem g (x ∷ v) ≡ true → R g x ≡ true → against R (x ∷ v) ≡ true
  against-stops g m t =
      let p = place_in g (x ∷ v) m in
      against-at R (x ∷ v) (place g (x ∷ v)) zero p.0 (omega arith) (subst (λ (f : ℕ). R f x ≡ true) (sym p.1) t) (omega arith)

  -- none does: the view is against the order where its rest is
  against-on : ((g : ℕ) → mem g (x ∷ v) ≡ true → R g x ≡ false) → against R (x ∷ v) ≡ against R v
  against-on none =
      same_test (against R (x ∷ v)) (against R v) (λ a. against-pair R (x ∷ v) a down)
      (λ a. against-pair R v a (λ i j p q t l. against-at R (x ∷ v) (suc i) (suc j) (omega arith) (omega arith) t (omega arith)))
    where
      down : (i j : ℕ) → i < length (x ∷ v) → j < length (x ∷ v) → R (get_or (x ∷ v) i 0) (get_or (x ∷ v) j 0) ≡ true → j ≤ i → against R v ≡ true
      down i zero p q t l = clash t (none (get_or (x ∷ v) i 0) (mem-get_or (x ∷ v) i p))
      down zero (suc j) p q t l = absurd (not-suc-le-zero l)
      down (suc i) (suc j) p q t l = against-at R v i j (le_of_suc-le-suc p) (le_of_suc-le-suc q) t (le_of_suc-le-suc l)

-- A walk of a view: the entries that are left decide, they are the ones that are marked, and none of them stands twice.
pub record Walk (rows : List ℕ) (all rest : List ℕ) (later : ℕ) : Type 0 where
  pub decides : against (in_rows rows) all ≡ against (in_rows rows) rest
  pub marked : (e : ℕ) → in_row later e ≡ mem e rest
  pub once : Once rest
  pub inside : (e : ℕ) → mem e rest ≡ true → e < 64

module _ (rows : List ℕ) (all : List ℕ) (later : ℕ) where
  walk-stops : (x : ℕ) (rest : List ℕ) → Walk rows all (x ∷ rest) later → any 64 (both later (get_or rows x 0)) ≡ true → against (in_rows rows) all ≡ true
  walk-stops x rest w t =
      let g = any_some 64 (both later (get_or rows x 0)) t in
      let b = and-true (in_row later g.0) (in_rows rows g.0 x) g.2 in
      w.decides ∙ against-stops (in_rows rows) x rest g.0 (sym (w.marked g.0) ∙ b.0) b.1

  walk-on : (x : ℕ) (rest : List ℕ) → Walk rows all (x ∷ rest) later → any 64 (both later (get_or rows x 0)) ≡ false → (later' : ℕ) → Less later x later' → Walk rows all rest later'
  walk-on x rest w f later' less =
      record {
        decides = w.decides ∙ against-on (in_rows rows) x rest (λ g m. free g m (any_none 64 (both later (get_or rows x 0)) f g (w.inside g m)));
        marked = λ e. less e ∙ at_head e x (λ s q. here e s q) (λ s q. left_in (in_row later e) (eqb e x) s ∙ w.marked e ∙ rw s refl);
        once = once-tail x rest w.once;
        inside = λ e m. w.inside e (true-or-right (eqb e x) m);
      }
    where
      free : (g : ℕ) → mem g (x ∷ rest) ≡ true → both later (get_or rows x 0) g ≡ false → in_rows rows g x ≡ false
      free g m n = by-test (in_rows rows g x) (λ t. clash (true-and (w.marked g ∙ m) t) n) (λ r. r)

      here : (e : ℕ) → eqb e x ≡ true → e ≡ x → (in_row later e && not (eqb e x)) ≡ mem e rest
      here e s q = taken-off (in_row later e) (eqb e x) s ∙ sym (ap (λ (k : ℕ). mem k rest) q ∙ once-head x rest w.once)

pub walk_end : (rows : List ℕ) (all : List ℕ) (later : ℕ) → Walk rows all [] later → against (in_rows rows) all ≡ false
unfolding against
walk_end rows all later w = w.decides

-- ---- a view as far as a loop has come: its first i entries, the entry x at i, and the others
module _ (view : List ℕ) (i : ℕ) (l : i < length view) (x : ℕ) (q : x ≡ get_or view i 0) where
  next : drop i view ≡ x ∷ drop (i + 1) view
  next = rw (q, add-one) (drop-cons view i 0 l)

  pub set-turn-stops : (row : ℕ) → x < 64 → in_row row x ≡ false → not_its_set 64 (in_row row) (drop i view) ≡ true
  set-turn-stops row h f = ap (not_its_set 64 (in_row row)) next ∙ set-stops row x (drop (i + 1) view) h f

  pub set-turn-on : (row row' : ℕ) → in_row row x ≡ true → Less row x row'
      → not_its_set 64 (in_row row) (drop i view) ≡ not_its_set 64 (in_row row') (drop (i + 1) view)
  set-turn-on row row' t less = ap (not_its_set 64 (in_row row)) next ∙ set_on row row' x (drop (i + 1) view) t less

  pub walk-turn-stops : (rows : List ℕ) (later : ℕ) → Walk rows view (drop i view) later
      → any 64 (both later (get_or rows x 0)) ≡ true → against (in_rows rows) view ≡ true
  walk-turn-stops rows later w t =
      walk-stops rows view later x (drop (i + 1) view) (subst (λ (r : List ℕ). Walk rows view r later) next w) t

  pub walk-turn-on : (rows : List ℕ) (later : ℕ) → Walk rows view (drop i view) later
      → any 64 (both later (get_or rows x 0)) ≡ false → (later' : ℕ) → Less later x later'
      → Walk rows view (drop (i + 1) view) later'
  walk-turn-on rows later w f later' less =
      walk-on rows view later x (drop (i + 1) view) (subst (λ (r : List ℕ). Walk rows view r later) next w) f later' less

  -- one entry more is marked
  pub mark-turn : (row row' : ℕ) → More row x row' → ((e : ℕ) → in_row row e ≡ mem e (take i view))
      → (e : ℕ) → in_row row' e ≡ mem e (take (i + 1) view)
  mark-turn row row' more_of m e =
      more_of e
      ∙ ap (λ (b : Bool). b || eqb e x) (m e)
      ∙ rw (q, add-one) (sym (mem-take-suc e view i l))

pub set-over : (row : ℕ) (view : List ℕ) (i : ℕ) → length view ≤ i → not_its_set 64 (in_row row) (drop i view) ≡ any 64 (in_row row)
set-over row view i h = ap (not_its_set 64 (in_row row)) (drop_all i view h) ∙ set-end row

pub walk-over : (rows : List ℕ) (later : ℕ) (view : List ℕ) (i : ℕ) → length view ≤ i
    → Walk rows view (drop i view) later → against (in_rows rows) view ≡ false
walk-over rows later view i h w =
    walk_end rows view later (subst (λ (r : List ℕ). Walk rows view r later) (drop_all i view h) w)

-- the entries of a view, all below 64
pub entries-inside : (view : List ℕ) → ((k : ℕ) → k < length view → get_or view k 0 < 64) → (e : ℕ) → mem e view ≡ true → e < 64
entries-inside view h e m =
    let p = place_in e view m in
    let b = h (place e view) (omega arith) in
    omega (arith, p.1)

pub walk_start : (rows : List ℕ) (view : List ℕ) (later : ℕ) → ((k : ℕ) → k < length view → get_or view k 0 < 64)
    → Once view → ((e : ℕ) → in_row later e ≡ mem e view) → Walk rows view view later
walk_start rows view later h o m = record { decides = refl; marked = m; once = o; inside = entries-inside view h }

-- a view that is its set has no entry twice
pub once-of-set : (P : ℕ → Bool) (v : List ℕ) → ((e : ℕ) → mem e v ≡ true → e < 64) → not_its_set 64 P v ≡ false → Once v
unfolding not_its_set
once-of-set P v inside f e =
    by-test (ltb e 64)
    (λ t. go (P e) (eqb-true (count e v) (one (P e)) (not-false _ (any_none 64 (λ e. not (eqb (count e v) (one (P e)))) f e (ltb-true e 64 t)))))
    (λ t. let c = count-out e v (by-test (mem e v) (λ m. let a = inside e m in let b = ltb-false e 64 t in absurd (omega arith)) (λ m. m)) in omega arith)
  where
    go : (b : Bool) → count e v ≡ one b → count e v ≤ 1
    go true q = omega arith
    go false q = omega arith

-- the view of number k of some views of events
pub view-few : (views : List (List ℕ)) (lengths : List ℕ) (m n : ℕ) → EventViews views lengths m n → (k : ℕ) → k < m → length (view_at views lengths k) ≤ 64
view-few views lengths m n e k l =
    let few = e.few k l in
    omega (arith, length-take (get_or lengths k 0) (get_or views k []))

pub view-inside : (views : List (List ℕ)) (lengths : List ℕ) (m n : ℕ) → EventViews views lengths m n → (k : ℕ) → k < m
    → (i : ℕ) → i < length (view_at views lengths k) → get_or (view_at views lengths k) i 0 < n
view-inside views lengths m n e k l i h =
    let below : i < get_or lengths k 0 = omega (arith, length-take (get_or lengths k 0) (get_or views k [])) in
    rw (get_or-take (get_or lengths k 0) (get_or views k []) i 0 below) (e.entries k l i below)

-- the first m views
pub view-first : (views : List (List ℕ)) (lengths : List ℕ) (m k : ℕ) → k < m → view_at (take m views) (take m lengths) k ≡ view_at views lengths k
view-first views lengths m k l = ap₂ take (get_or-take m lengths k 0 l) (get_or-take m views k [] l)

pub views-first : (views : List (List ℕ)) (lengths : List ℕ) (m n : ℕ) → EventViews views lengths m n → EventViews (take m views) (take m lengths) m n
views-first views lengths m n e = record {
  few = λ k l. rw (get_or-take m lengths k 0 l) (e.few k l);
  entries = λ k l i b. rw (get_or-take m views k [] l) (e.entries k l i (rw (get_or-take m lengths k 0 l) at b));
}
