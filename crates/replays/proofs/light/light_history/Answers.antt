-- `light_history` meets its contract: an event of the list stands at the same place of the array. Assumes nothing.
use Rattle.std.proofs.Common.{arith, rules, ◌≡◌, ◌∙◌, ◌<◌, ℕ, List, ap, get_or, refl}
use Rattle.std.proofs.Math.Seq.{get_or-take}
use Rattle.history.specs.declared.record.Event.{Event}
use Rattle.history.specs.declared.record.History.{History}
use Rattle.history.specs.Record.{no_event, events_in}
use Rattle.replays.specs.Light.{light_of}
use Rattle.replays.proofs.light.light_history.Goals as goal

in_place : (h : History) (es : List Event) → es ≡ events_in h → (e : ℕ) → e < h.count → get_or es e no_event ≡ get_or h.events e no_event
in_place h es is e k = rw is (get_or-take h.count h.events e no_event k)

pub returns : goal.returns
returns c =
    let long = c.recorded_events-events.ensures.count in
    let at = in_place c.args.h.now _ c.recorded_events-events.ensures.events in
    record {
      events = record {
        objects = refl;
        size = refl;
        lights = λ e k. c.light_events.ensures e (omega (arith, long, k)) ∙ ap (light_of c.args.h.now.objects) (at e k);
        answers = λ e k. c.answers_of.ensures e (omega (arith, long, k)) ∙ ap (λ (x : Event). x.answer) (at e k);
      };
      long = search rules;
      start = c.values_of.ensures.0;
      values = λ e k. c.values_of.ensures.1 e (omega (arith, long, k)) ∙ ap (λ (x : Event). x.value) (at e k);
    }
