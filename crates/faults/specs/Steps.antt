-- How the faults are found on rows: 11 to 13 of an order, 14, 15 and 20 of views.
use Rattle.std.specs.Prelude.{ℕ, Bool, true, false, not, ◌&&◌, ◌||◌, List, get_or, eqb, ltb}
use Rattle.std.proofs.Math.Option.{Option}
use Rattle.certificate.specs.declared.record.Criterion.{Criterion}
use Rattle.certificate.specs.declared.record.Criterion.TheVariants.{Pram, Weak, Causal, Converge, Sequential, Strict}
use Rattle.criteria.specs.Tests.{any, or, found_if, lowest}
use Rattle.criteria.specs.Check.{Fault, fault11, fault12, fault13, fault14, fault15, fault20, lacks_past, not_its_set, against, outside_past}
use Rattle.orders.specs.Rows.{in_rows, view_at}

-- 11, 12 and 13 of the order of rows, over the first n events.
unfoldable pub order_fault : List ℕ → List ℕ → ℕ → Option Fault
order_fault rows must n =
    or (lowest n (λ e. found_if (any 64 (λ f. in_rows must f e && not (in_rows rows f e))) (fault11 e)))
    (or (lowest n (λ e. found_if (in_rows rows e e) (fault12 e)))
    (lowest n (λ e. found_if (lacks_past 64 (in_rows rows) e) (fault13 e))))

-- The set of view k, of n events: past(k) and k where the views are one an event, else all events.
abbrev pub set_at : Bool → List ℕ → ℕ → ℕ → ℕ → Bool
set_at true rows n k f = in_rows rows f k || eqb f k
set_at false rows n k f = ltb f n

-- 14 and 15 of the first m views, and 20 of the first `strict` of them; the own events of a view are those of the process that numbers it.
unfoldable pub view_fault : Bool → List (List ℕ) → List ℕ → List ℕ → List ℕ → List ℕ → ℕ → ℕ → ℕ → Option Fault
view_fault each views lengths numbers rows processes m strict n =
    or (lowest m (λ k. found_if (not_its_set 64 (set_at each rows n k) (view_at views lengths k)) (fault14 (get_or numbers k 0))))
    (or (lowest m (λ k. found_if (against (in_rows rows) (view_at views lengths k)) (fault15 (get_or numbers k 0))))
    (lowest strict
    (λ k. found_if (outside_past (in_rows rows) (λ e. eqb (get_or processes e 0) (get_or numbers k 0)) (view_at views lengths k)) (fault20 (get_or numbers k 0)))))

abbrev pub is_converge : Criterion → Bool
is_converge Pram = false
is_converge Weak = false
is_converge Causal = false
is_converge Converge = true
is_converge Sequential = false
is_converge Strict = false
