-- The criterion of a number of the C interface, as it is read.
use Rattle.std.specs.Prelude.{ℕ, zero, suc, Result, Ok, Err}
use Rattle.certificate.specs.declared.criterion.NoCriterion.{NoCriterion}
use Rattle.certificate.specs.declared.record.Criterion.{Criterion}
use Rattle.certificate.specs.declared.record.Criterion.TheVariants.{Pram, Weak, Causal, Converge, Sequential, Strict}

-- The criterion of a number (document 01: "criterion wanted: pram 0, weak 1, causal 2, converge 3, sequential 4"); strict 5 (document
-- 02, T-06).
abbrev pub criterion_numbered : ℕ → Result Criterion NoCriterion
criterion_numbered zero = Ok Pram
criterion_numbered (suc zero) = Ok Weak
criterion_numbered (suc (suc zero)) = Ok Causal
criterion_numbered (suc (suc (suc zero))) = Ok Converge
criterion_numbered (suc (suc (suc (suc zero)))) = Ok Sequential
criterion_numbered (suc (suc (suc (suc (suc zero))))) = Ok Strict
criterion_numbered (suc (suc (suc (suc (suc (suc n)))))) = Err (record {})
