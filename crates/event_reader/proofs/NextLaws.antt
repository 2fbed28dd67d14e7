-- What the quick way tells of the line of an event. Assumes nothing.
use Prim.Native.Nat.{ℕ, ◌+◌, ◌≤◌}
use native.Mathlib.Omega.{arith}
use mathlib.Core.Path.{◌≡◌, sym, ap, ◌∙◌}
use mathlib.Core.List.{List}
use lib.ListN.{length, take, length-take}
use Rattle.std.proofs.Common.{Bor}
use Rattle.std.specs.Prelude.{Option, Some, None, IfSome, Ok}
use Rattle.layout.specs.Split.{find}
use Rattle.layout.proofs.SplitLaws.{find-le}
use Rattle.history.specs.declared.record.Object.{Object}
use Rattle.history.specs.declared.record.Event.{Event}
use Rattle.history.specs.Faults.{faulty_event, event_read, event_line}
use Rattle.history.specs.HistoryText.{event_text}
use Rattle.history.proofs.NextLaws.{next-cut, first-long, first-read}
use Rattle.event_reader.specs.Steps.Next.{next_read, EventFirst}
use Rattle.event_reader.proofs.EventRound.{event-written, event-clean}

-- a text that is its own first line, without a line feed (the edit no_final_line_feed tests for it)
pub cut_long : (text part : List ℕ) → part ≡ take (find 10 text) text → length part ≡ length text → length text ≡ find 10 text
cut_long text part first whole = omega (arith, whole, ap length first, length-take (find 10 text) text, find-le 10 text)

pub cut_told : (own : ℕ) (os : List Object) (text part : List ℕ) → part ≡ take (find 10 text) text → length part ≡ length text
    → faulty_event 2 ≡ next_read own os text
cut_told own os text part first whole =
    sym (next-cut (event_line own os) (faulty_event 2) text (omega (arith, cut_long text part first whole)))

-- where it read the line, what stands behind its line feed, and what the line says
pub first_told : (own : ℕ) (os : List Object) (text : List ℕ) (q : Option (Event × Bor (List ℕ))) → IfSome q (λ r. EventFirst own os text r.0 r.1.now)
    → IfSome q (λ r. (find 10 text + 1 + length r.1.now ≡ length text) × (next_read own os text ≡ event_read (Ok r.0)))
first_told own os text None first = tt
first_told own os text (Some (e, rest)) first = (
  first-long (event_line own os) (faulty_event 2) text (event_text own e) rest.now (event-clean own e) first.spelt,
  first-read (event_line own os) (faulty_event 2) text (event_text own e) rest.now (event-clean own e) first.spelt
      ∙ event-written own os e first.numbered first.good,
)
