-- The views of a criterion, by what they are: one a process, one an event, or one. Assumes nothing.
use Prim.Native.Nat.{ℕ, ◌≤◌}
use native.Mathlib.Omega.{arith}
use mathlib.Core.Logic.{◌⊎◌, inl, inr}
use mathlib.Core.Path.{◌≡◌, refl, sym, ap}
use mathlib.Core.Bool.{true, false, false≢true}
use mathlib.Core.List.{List, [], ◌∷◌}
use lib.ListN.{length, take}
use lib.Seq.{length-take-le}
use Rattle.history.specs.declared.record.Event.{Event}
use Rattle.certificate.specs.declared.record.Criterion.{Criterion}
use Rattle.certificate.specs.declared.record.Criterion.TheVariants.{Pram, Weak, Causal, Converge, Sequential, Strict}
use Rattle.certificate.specs.declared.numbers.ViewNumbers.{ViewNumbers}
use Rattle.certificate.specs.Criteria.{count_from, processes_from, view_numbers}
use Rattle.certificate.specs.Steps.Numbers.{view_numbers_of, event_each}
use Rattle.certificate.proofs.NumberingLaws.{views-are}
use Rattle.earlier.specs.ProcessEach.{process_each}

-- ---- of the first n events: a view a process, a view an event, or one view
module _ (c : Criterion) (events : List Event) (n : ℕ) (room : n ≤ 64) (long : length events ≡ 64) (r : ViewNumbers) where
  abbrev es : List Event
  es = take n events

  all : length es ≡ n
  all = length-take-le n events (omega arith)

  few : length es ≤ 64
  few = omega (arith, all)

  pub process-views : process_each c ≡ true → r ≡ view_numbers_of (processes_from es 0 8) → (r ≡ view_numbers_of (view_numbers c es)) × (r.count ≤ 64)
  unfolding view_numbers
  process-views t e = views-are c Pram Strict es r (processes_from es 0 8) few (go c t) refl refl e
    where
      go : (c : Criterion) → process_each c ≡ true → (c ≡ Pram) ⊎ (c ≡ Strict)
      go Pram t = inl refl
      go Weak t = absurd (false≢true t)
      go Causal t = absurd (false≢true t)
      go Converge t = absurd (false≢true t)
      go Sequential t = absurd (false≢true t)
      go Strict t = inr refl

  pub event-views : event_each c ≡ true → r ≡ view_numbers_of (count_from 0 n) → (r ≡ view_numbers_of (view_numbers c es)) × (r.count ≤ 64)
  unfolding view_numbers
  event-views t e = views-are c Weak Causal es r (count_from 0 n) few (go c t) (ap (count_from 0) all) (ap (count_from 0) all) e
    where
      go : (c : Criterion) → event_each c ≡ true → (c ≡ Weak) ⊎ (c ≡ Causal)
      go Pram t = absurd (false≢true t)
      go Weak t = inl refl
      go Causal t = inr refl
      go Converge t = absurd (false≢true t)
      go Sequential t = absurd (false≢true t)
      go Strict t = absurd (false≢true t)

  pub one-view : process_each c ≡ false → event_each c ≡ false → r ≡ view_numbers_of (0 ∷ []) → (r ≡ view_numbers_of (view_numbers c es)) × (r.count ≤ 64)
  unfolding view_numbers
  one-view p t e = views-are c Converge Sequential es r (0 ∷ []) few (go c p t) refl refl e
    where
      go : (c : Criterion) → process_each c ≡ false → event_each c ≡ false → (c ≡ Converge) ⊎ (c ≡ Sequential)
      go Pram p t = absurd (false≢true (sym p))
      go Weak p t = absurd (false≢true (sym t))
      go Causal p t = absurd (false≢true (sym t))
      go Converge p t = inl refl
      go Sequential p t = inr refl
      go Strict p t = absurd (false≢true (sym p))
