-- Which views are one a process, as a test of the criterion: `view_numbers` of certificate goes over the criteria itself now.
use mathlib.Core.Bool.{Bool, true, false}
use Rattle.certificate.specs.declared.record.Criterion.{Criterion}
use Rattle.certificate.specs.declared.record.Criterion.TheVariants.{Pram, Weak, Causal, Converge, Sequential, Strict}

-- The views are one a process with events.
abbrev pub process_each : Criterion → Bool
process_each Pram = true
process_each Weak = false
process_each Causal = false
process_each Converge = false
process_each Sequential = false
process_each Strict = true
