-- Laws of the search for the lowest view with a wrong answer. Assumes nothing.
use Prim.Native.Nat.{ℕ, ◌+◌, ◌≤◌, ◌<◌}
use native.Mathlib.Omega.{arith}
use mathlib.Core.Path.{◌≡◌, sym, ap}
use mathlib.Core.Option.{Option, none, some}
use Rattle.std.specs.Prelude.{Some}
use Rattle.layout.proofs.Cases.{by-eq}
use Rattle.history.specs.declared.record.EventNo.{EventNo}
use Rattle.criteria.specs.Tests.{lowest}
use Rattle.criteria.proofs.Lists.{none-lowest}
use Rattle.criteria.proofs.Loops.{lowest-found}
use Rattle.replayed_views.specs.declared.search.Place.{Place}
use Rattle.replays.specs.Replay.{found_event}
use Rattle.replayed_views.specs.Search.{at_view}

-- the replay of view k found the event e
pub wrong-here : (k : ℕ) (e : EventNo) (o : Option ℕ) → found_event (Some e) ≡ o → at_view k o ≡ some record { view = k; event = e }
wrong-here k e o q = ap (at_view k) (sym q)

-- nothing was found up to k, nor at k
pub none-on : {A : Type 0} {f : ℕ → Option A} {k : ℕ} → ((i : ℕ) → i < k → f i ≡ none) → f k ≡ none → (i : ℕ) → i < k + 1 → f i ≡ none
none-on {k = k} g q i h = by-eq i k (λ e. rw e q) (λ n. g i (omega (arith, n)))

module _ (m : ℕ) (f : ℕ → Option Place) where
  pub place_found : {k : ℕ} {p : Place} → k < m → ((i : ℕ) → i < k → f i ≡ none) → f k ≡ some p → some p ≡ lowest m f
  place_found {k} {p} l g q = sym (lowest-found m f k p l g q)

  pub place_none : {k : ℕ} → m ≤ k → ((i : ℕ) → i < k → f i ≡ none) → none ≡ lowest m f
  place_none l g = sym (none-lowest m f (λ i h. g i (omega arith)))
