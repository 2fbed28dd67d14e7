-- What the searches over views need: the row of no events, and sets that are the same. Assumes nothing.
use mathlib.Core.Path.{◌≡◌, sym, ap, ◌∙◌}
use mathlib.Core.Bool.{Bool, not, ◌||◌}
use mathlib.Core.List.{List}
use Prim.Native.Nat.{ℕ}
use native.Mathlib.Omega.{arith}
use lib.Dec.{eqb, ltb}
use lib.ListN.{get_or}
use borrow.Author.Tests.{le-ltb}
use Rattle.criteria.specs.Tests.{count, one}
use Rattle.criteria.specs.Check.{not_its_set, against, outside_past}
use Rattle.orders.specs.Rows.{in_row, in_rows, view_at}
use Rattle.orders.proofs.BitLaws.{any_same, none_in}

-- tests that agree give the same set
pub set_same : (n : ℕ) (P Q : ℕ → Bool) (v : List ℕ) → ((e : ℕ) → P e ≡ Q e) → not_its_set n P v ≡ not_its_set n Q v
unfolding not_its_set
set_same n P Q v h =
    any_same n (λ e. not (eqb (count e v) (one (P e)))) (λ e. not (eqb (count e v) (one (Q e)))) (λ e l. ap (λ (b : Bool). not (eqb (count e v) (one b))) (h e))

-- no event is in the row yet
pub first-none : (e : ℕ) → in_row 0 e ≡ ltb e 0
first-none e = none_in e ∙ sym (le-ltb e 0 (omega arith))

-- view k is not all n events; it is not the past of event k and that event; it is against the order
abbrev pub not_all : List (List ℕ) → List ℕ → ℕ → ℕ → Bool
not_all views lengths n k = not_its_set 64 (λ e. ltb e n) (view_at views lengths k)

abbrev pub not_past : List (List ℕ) → List ℕ → List ℕ → ℕ → Bool
not_past views lengths rows k = not_its_set 64 (λ f. in_rows rows f k || eqb f k) (view_at views lengths k)

abbrev pub inverted : List (List ℕ) → List ℕ → List ℕ → ℕ → Bool
inverted views lengths rows k = against (in_rows rows) (view_at views lengths k)

-- an event outside the past stands before an own event in view k
abbrev pub outside : List (List ℕ) → List ℕ → List ℕ → List ℕ → List ℕ → ℕ → Bool
outside views lengths rows processes numbers k =
    outside_past (in_rows rows) (λ e. eqb (get_or processes e 0) (get_or numbers k 0)) (view_at views lengths k)
