-- The answers that are visible in the replay of a view are those that the criterion says. Assumes nothing.
use Prim.Native.Nat.{ℕ, ◌≤◌, ◌<◌}
use native.Mathlib.Omega.{arith}
use mathlib.Core.Path.{◌≡◌, refl, sym, ap, ◌∙◌}
use mathlib.Core.List.{List}
use lib.ListN.{length, get_or}
use lib.Seq.{get_or-take}
use lib.Dec.{eqb}
use Rattle.history.specs.declared.record.History as WrittenHistory
use Rattle.history.specs.Record.{no_event, events_in}
use Rattle.certificate.specs.declared.record.Criterion.{Criterion}
use Rattle.certificate.specs.declared.record.Criterion.TheVariants.{Pram, Weak, Causal, Converge, Sequential, Strict}
use Rattle.certificate.specs.Criteria.{view_numbers}
use Rattle.criteria.specs.History.{Event, process}
use Rattle.criteria.specs.Certificate.{view_count, replay_count, visible}
use Rattle.criteria.specs.Records.{event_of, history_of}
use Rattle.criteria.proofs.RecordLaws.{size_is, event-is, view-number}
use Rattle.replays.specs.declared.replay.Light.{Light}
use Rattle.replays.specs.Replay.{no_light, is_visible}
use Rattle.replays.specs.Visible.{visible_at}
use Rattle.replays.specs.Light.{light_of}
use Rattle.replays.proofs.LightLaws.{Made}

module _ (h : WrittenHistory.History) (ls : List Light) (numbers : List ℕ) (few : h.count ≤ 64) (counted : length (events_in h) ≡ h.count)
    (lights : Made (light_of h.objects) no_event no_light h.events ls h.count) where
  -- the process of event k
  process-light : (k : ℕ) → k < h.count → (get_or ls k no_light).process.0 ≡ process (history_of h) k
  unfolding event_of
  process-light k l =
      ap (λ (x : Light). x.process.0) (lights k l)
      ∙ ap (λ x. x.process.0) (sym (get_or-take h.count h.events k no_event l))
      ∙ sym (ap (λ (x : Event). x.process) (event-is h k (omega arith)))

  pub visible-is : (w : Criterion) (k : ℕ) → k < replay_count w (history_of h)
      → (k < view_count w (history_of h) → get_or numbers k 0 ≡ get_or (view_numbers w (events_in h)) k 0)
      → (e : ℕ) → is_visible (history_of h) (visible_at w numbers ls k) e ≡ visible w (history_of h) k e
  visible-is Pram k l same e = ap (λ (p : ℕ). eqb (process (history_of h) e) p) (same l ∙ sym (view-number Pram h k l))
  visible-is Weak k l same e = refl
  visible-is Causal k l same e = ap (λ (p : ℕ). eqb (process (history_of h) e) p) (process-light k (omega (arith, size_is h)))
  visible-is Converge k l same e = refl
  visible-is Sequential k l same e = refl
  visible-is Strict k l same e = ap (λ (p : ℕ). eqb (process (history_of h) e) p) (same l ∙ sym (view-number Strict h k l))
