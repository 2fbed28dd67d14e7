-- Laws of a table of words. Assumes nothing.
use Prim.Native.Nat.{ℕ, zero, suc, ◌<◌}
use native.Mathlib.Omega.{arith}
use mathlib.Core.Path.{◌≡◌, refl, sym, ◌∙◌}
use mathlib.Core.Bool.{true, false}
use mathlib.Core.List.{List, [], ◌∷◌}
use lib.ListN.{length, get_or}
use denote.Ref.{Bor}
use Rattle.std.specs.Prelude.{Option, Some, None, MatchOption}
use Rattle.std.specs.List.{AllWithin, HoldsAt}
use Rattle.layout.specs.Word.{same}
use Rattle.layout.specs.Steps.Table.{named}

module _ {A : Type 0} (f : List ℕ) where
  -- no word of the table is the field
  named_none : (ws : List (Bor (List ℕ) × A)) → ((j : ℕ) (d : Bor (List ℕ) × A) → j < length ws → same f (get_or ws j d).0.now ≡ false)
      → named f ws ≡ None
  unfolding named
  named_none [] h = refl
  named_none (p ∷ ps) h = rw (h 0 p (omega arith)) (named_none ps (λ j d l. h (suc j) d (omega arith)))

  -- the first that is
  named_first : (ws : List (Bor (List ℕ) × A)) (i : ℕ) (x : Bor (List ℕ) × A) → i < length ws
      → ((d : Bor (List ℕ) × A) → get_or ws i d ≡ x) → same f x.0.now ≡ true
      → ((j : ℕ) (d : Bor (List ℕ) × A) → j < i → same f (get_or ws j d).0.now ≡ false) → named f ws ≡ Some x.1
  unfolding named
  named_first [] i x l e s h = absurd (omega arith)
  named_first (p ∷ ps) zero x l e s h = rw (e p, s) refl
  named_first (p ∷ ps) (suc i) x l e s h =
      rw (h 0 p (omega arith)) (named_first ps i x (omega arith) e s (λ j d k. h (suc j) d (omega arith)))

  -- as `find` tells of the table, and `map` of what it found
  pub named_found : (ws : List (Bor (List ℕ) × A)) (r : Option (Bor (Bor (List ℕ) × A))) (m : Option A)
      → MatchOption r (AllWithin (λ p. same f p.0.now ≡ false) ws 0 (length ws))
      (λ x. (same f x.now.0.now ≡ true) × (i : ℕ) × (i < length ws) × HoldsAt (λ y. y ≡ x.now) ws i × AllWithin (λ p. same f p.0.now ≡ false) ws 0 i)
      → (r ≡ None → m ≡ None) → ((x : Bor (Bor (List ℕ) × A)) → r ≡ Some x → m ≡ Some x.now.1) → m ≡ named f ws
  named_found ws None m h none some = none refl ∙ sym (named_none ws (λ j d l. h j d (omega arith) l))
  named_found ws (Some x) m h none some =
      some x refl ∙ sym (named_first ws h.1 x.now h.2 h.3 h.0 (λ j d l. h.4 j d (omega arith) l))
