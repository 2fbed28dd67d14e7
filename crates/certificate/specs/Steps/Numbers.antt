-- The numbers of the views in an array, and which criteria have a view an event.
use Rattle.std.specs.Prelude.{ℕ, Bool, true, false, List, length}
use Rattle.history.specs.Record.{pad}
use Rattle.certificate.specs.declared.record.Criterion.{Criterion}
use Rattle.certificate.specs.declared.record.Criterion.TheVariants.{Pram, Weak, Causal, Converge, Sequential, Strict}
use Rattle.certificate.specs.declared.numbers.ViewNumbers.{ViewNumbers}

unfoldable pub view_numbers_of : List ℕ → ViewNumbers
view_numbers_of ns = record { count = length ns; numbers = pad 64 0 ns }

-- The views are one an event.
abbrev pub event_each : Criterion → Bool
event_each Pram = false
event_each Weak = true
event_each Causal = true
event_each Converge = false
event_each Sequential = false
event_each Strict = false
