-- Faults 11 to 13 on rows: what the searches of `orders` give, and that they are those of the history and the order. Assumes nothing.
use Prim.Native.Nat.{ℕ, ◌≤◌, ◌<◌}
use native.Mathlib.Omega.{arith}
use mathlib.Core.Path.{◌≡◌, refl, ap₂, ◌∙◌}
use mathlib.Core.Bool.{Bool, true, false, not, ◌&&◌}
use mathlib.Core.List.{List}
use mathlib.Core.Option.{Option, none, some}
use Rattle.layout.proofs.Cases.{by_bool}
use Rattle.criteria.specs.Tests.{any, or, found_if, lowest}
use Rattle.criteria.specs.History.{History, size, program_order}
use Rattle.criteria.specs.Check.{Fault, fault11, fault12, fault13, lacks_own, lacks_past, find11, find12, find13}
use Rattle.criteria.proofs.Check.{program-parts}
use Rattle.orders.specs.Rows.{in_rows, IsOrder}
use Rattle.orders.proofs.BitLaws.{any_same}
use Rattle.orders.proofs.RowLaws.{lacks}
use Rattle.orders.proofs.SizeLaws.{any-fewer, past-size}
use Rattle.faults.specs.Steps.{order_fault}
use Rattle.faults.proofs.FoundLaws.{found-same, found_some, found_none}

-- the tests of 12 and 13 on rows; that of 11 is `lacks`
abbrev pub own : List ℕ → ℕ → Bool
own rows e = in_rows rows e e

abbrev pub unclosed : List ℕ → ℕ → Bool
unclosed rows e = lacks_past 64 (in_rows rows) e

-- what the search of a test found
abbrev pub Found : Option ℕ → (ℕ → Bool) → ℕ → Type 0
Found r t n = r ≡ lowest n (λ e. found_if (t e) e)

module _ (rows must : List ℕ) (n : ℕ) where
  pub is-11 : (a : ℕ) → Found (some a) (lacks rows must) n → some (fault11 a) ≡ order_fault rows must n
  unfolding order_fault
  is-11 a p = rw (found_some (lacks rows must) fault11 n a p) refl

  module _ (p : Found none (lacks rows must) n) where
    pub is-12 : (b : ℕ) → Found (some b) (own rows) n → some (fault12 b) ≡ order_fault rows must n
    unfolding order_fault
    is-12 b q = rw (found_none (lacks rows must) fault11 n p, found_some (own rows) fault12 n b q) refl

    module _ (q : Found none (own rows) n) where
      pub is-13 : (c : ℕ) → Found (some c) (unclosed rows) n → some (fault13 c) ≡ order_fault rows must n
      unfolding order_fault
      is-13 c r = rw (found_none (lacks rows must) fault11 n p, found_none (own rows) fault12 n q, found_some (unclosed rows) fault13 n c r) refl

      pub is-nothing : Found none (unclosed rows) n → none ≡ order_fault rows must n
      unfolding order_fault
      is-nothing r = rw (found_none (lacks rows must) fault11 n p, found_none (own rows) fault12 n q, found_none (unclosed rows) fault13 n r) refl

module _ (h : History) (R : ℕ → ℕ → Bool) (rows must : List ℕ) (few : size h ≤ 64)
    (is-order : IsOrder rows R) (is-program : IsOrder must (program_order h))
    (inside : (a b : ℕ) → R a b ≡ true → (a < size h) × (b < size h)) where
  -- nothing past the last event is before another in program order
  outside : (f e : ℕ) → size h ≤ f → program_order h f e ≡ false
  outside f e l = by_bool (program_order h f e) (λ t. let p = program-parts h f e t in absurd (omega arith)) (λ t. t)

  same-11 : (e : ℕ) → lacks rows must e ≡ lacks_own h R e
  unfolding lacks_own
  same-11 e =
      any_same 64 (λ f. in_rows must f e && not (in_rows rows f e)) (λ f. program_order h f e && not (R f e))
      (λ f l. ap₂ (λ (x y : Bool). x && not y) (is-program f e) (is-order f e))
      ∙ any-fewer 64 (size h) (λ f. program_order h f e && not (R f e)) few (λ f l. rw (outside f e l) refl)

  same-13 : (e : ℕ) → unclosed rows e ≡ lacks_past 64 R e
  unfolding lacks_past
  same-13 e =
      any_same 64 (λ f. in_rows rows f e && any 64 (λ g. in_rows rows g f && not (in_rows rows g e))) (λ f. R f e && any 64 (λ g. R g f && not (R g e)))
      (λ f l.
      ap₂ (λ (x y : Bool). x && y) (is-order f e)
      (any_same 64 (λ g. in_rows rows g f && not (in_rows rows g e)) (λ g. R g f && not (R g e))
      (λ g k. ap₂ (λ (x y : Bool). x && not y) (is-order g f) (is-order g e))))

  pub order-faults : (among : ℕ) → order_fault rows must among ≡ or (find11 h R among) (or (find12 R among) (find13 h R among))
  unfolding order_fault
  order-faults among =
      ap₂ (λ (x y : Option Fault). or x y)
      (found-same among (lacks rows must) (lacks_own h R) fault11 (λ e l. same-11 e))
      (ap₂ (λ (x y : Option Fault). or x y)
      (found-same among (own rows) (λ e. R e e) fault12 (λ e l. is-order e e))
      (found-same among (unclosed rows) (lacks_past (size h) R) fault13 (λ e l. same-13 e ∙ past-size (size h) few R inside e)))
