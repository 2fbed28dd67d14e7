-- What the loop of 20 needs: the entries before an own event are marked, and all of them are in its past. Assumes nothing.
use mathlib.Core.Path.{◌≡◌, sym, subst, ◌∙◌}
use mathlib.Core.Bool.{Bool, true, false, not, ◌&&◌}
use mathlib.Core.List.{List}
use Prim.Native.Nat.{ℕ, ◌<◌}
use native.Mathlib.Omega.{arith}
use lib.ListN.{length, get_or, take}
use lib.Seq.{get_or-take, length-take-le}
use Rattle.layout.proofs.Cases.{true-and}
use Rattle.criteria.specs.Tests.{any, mem, place}
use Rattle.criteria.specs.Check.{outside_past}
use Rattle.criteria.proofs.Lists.{and-true, same_test, any_at, any_some, none_any, mem-get_or, place_in}
use Rattle.orders.specs.Rows.{in_row, in_rows}
use Rattle.orders.proofs.RowLaws.{apart}

-- an own event stands at the place j, and one at a place before it is not in its past
abbrev pub outside_at : (ℕ → ℕ → Bool) → (ℕ → Bool) → List ℕ → ℕ → Bool
outside_at R own v j = any j (λ i. own (get_or v j 0) && not (R (get_or v i 0) (get_or v j 0)))

-- the entries before the place i are marked: one of them is not in the past of the own event x
outside-here : (rows : List ℕ) (own : ℕ → Bool) (view : List ℕ) (i before : ℕ) → i < length view
    → ((k : ℕ) → k < length view → get_or view k 0 < 64) → ((e : ℕ) → in_row before e ≡ mem e (take i view))
    → (own (get_or view i 0) && any 64 (apart before (get_or rows (get_or view i 0) 0))) ≡ outside_at (in_rows rows) own view i
outside-here rows own view i before l small marked =
    same_test (own x && any 64 (apart before (get_or rows x 0))) (outside_at (in_rows rows) own view i)
    (λ t.
    let p = and-true (own x) (any 64 (apart before (get_or rows x 0))) t in
    let g = any_some 64 (apart before (get_or rows x 0)) p.1 in
    let b = and-true (in_row before g.0) (not (in_rows rows g.0 x)) g.2 in
    let q = place_in g.0 (take i view) (sym (marked g.0) ∙ b.0) in
    let len = length-take-le i view (omega arith) in
    let at : get_or view (place g.0 (take i view)) 0 ≡ g.0 = sym (get_or-take i view (place g.0 (take i view)) 0 (omega arith)) ∙ q.1 in
    any_at i (λ k. own x && not (in_rows rows (get_or view k 0) x)) (place g.0 (take i view)) (omega arith)
    (true-and p.0 (subst (λ (f : ℕ). not (in_rows rows f x) ≡ true) (sym at) b.1)))
    (λ t.
    let g = any_some i (λ k. own x && not (in_rows rows (get_or view k 0) x)) t in
    let b = and-true (own x) (not (in_rows rows (get_or view g.0 0) x)) g.2 in
    let len = length-take-le i view (omega arith) in
    let k = g.1 in
    let in-it : mem (get_or view g.0 0) (take i view) ≡ true =
    subst (λ (f : ℕ). mem f (take i view) ≡ true) (get_or-take i view g.0 0 g.1) (mem-get_or (take i view) g.0 (omega arith)) in
    true-and b.0
    (any_at 64 (apart before (get_or rows x 0)) (get_or view g.0 0) (small g.0 (omega arith)) (true-and (marked (get_or view g.0 0) ∙ in-it) b.1)))
  where
    x : ℕ
    x = get_or view i 0

pub outside-turn : (rows : List ℕ) (own : ℕ → Bool) (view : List ℕ) (i before x : ℕ) → i < length view → x ≡ get_or view i 0
    → ((k : ℕ) → k < length view → get_or view k 0 < 64) → ((e : ℕ) → in_row before e ≡ mem e (take i view))
    → (own x && any 64 (apart before (get_or rows x 0))) ≡ outside_at (in_rows rows) own view i
outside-turn rows own view i before x l q small marked = rw q (outside-here rows own view i before l small marked)

-- an entry was found, and all entries were looked at
pub outside_found : (R : ℕ → ℕ → Bool) (own : ℕ → Bool) (view : List ℕ) (i : ℕ) → i < length view
    → outside_at R own view i ≡ true → outside_past R own view ≡ true
unfolding outside_past
outside_found R own view i l t = any_at (length view) (outside_at R own view) i l t

pub outside_nowhere : (R : ℕ → ℕ → Bool) (own : ℕ → Bool) (view : List ℕ)
    → ((i : ℕ) → i < length view → outside_at R own view i ≡ false) → outside_past R own view ≡ false
unfolding outside_past
outside_nowhere R own view h = none_any (length view) (outside_at R own view) h
