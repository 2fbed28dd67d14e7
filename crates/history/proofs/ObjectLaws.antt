-- Laws of the line of an object. Assumes nothing.
use Prim.Native.Nat.{ℕ}
use mathlib.Core.Path.{◌≡◌}
use mathlib.Core.Bool.{true}
use mathlib.Core.List.{List, []}
use lib.ListN.{length, get_or}
use borrow.Author.Tests.{eq-eqb, ne_eqb}
use Rattle.layout.specs.Split.{split}
use Rattle.history.specs.Faults.{object_layout, object_limits, object_fits, object_fault, faulty_object, object_three, object_fields, object_line}
use Rattle.history.proofs.FaultLaws.{InOrder, fault-none}

-- ---- the object, or its fault
module _ (own : ℕ) (a k w : List ℕ) where
  pub three-faulty : (object_fault own a k w ≡ 0 → ⊥) → object_three own a k w ≡ faulty_object (object_fault own a k w)
  unfolding object_three
  three-faulty h = rw (ne_eqb (object_fault own a k w) 0 h)

  -- what a line without a fault says
  pub three-order : object_fault own a k w ≡ 0 → InOrder (object_layout own a k w) (object_limits own k w) (object_fits k w) true
  unfolding object_fault
  three-order e = fault-none _ _ _ _ e

-- ---- the line, by its fields
module _ (own : ℕ) (line : List ℕ) (fs : List (List ℕ)) (cut : split 32 line ≡ fs) where
  pub object-count : (length fs ≡ 3 → ⊥) → object_line own line ≡ faulty_object 2
  unfolding object_line object_fields
  object-count h = rw (cut, ne_eqb (length fs) 3 h)

  pub object-three : length fs ≡ 3 → object_line own line ≡ object_three own (get_or fs 0 []) (get_or fs 1 []) (get_or fs 2 [])
  unfolding object_line object_fields
  object-three h = rw (cut, eq-eqb (length fs) 3 h)
