-- The weakened text of a certificate text for a history text (document 01, "Weaken"): "the wanted criterion's certificate text made of
-- these lists".
use Rattle.std.specs.Prelude.{ℕ, zero, suc, false, List}
use Rattle.std.proofs.Math.Option.{Option, none, some}
use Rattle.history.specs.Record.{events_in}
use Rattle.history_reader.specs.ReadHistory.{read_history}
use Rattle.certificate.specs.declared.record.Criterion.{Criterion}
use Rattle.certificate.specs.declared.record.Criterion.TheVariants.{Pram, Weak, Causal, Converge, Sequential, Strict}
use Rattle.criteria.specs.Weaken.{weakened}
use Rattle.checker.specs.CheckText.{Verdict, history_read, certificate_read}
use Rattle.checker.specs.MadeText.{text_if_some, made_verdict, length_made, bytes_made}

-- None where the criterion that the text names and the one wanted are not a pair.
unfoldable pub weakened_text : List ℕ → List ℕ → Criterion → Option (List ℕ)
weakened_text history text w =
    text_if_some (events_in (read_history history).history) (weakened w (history_read history) (certificate_read history text))

-- ---- the answer, its places, the length and the buffer
-- "criterion wanted: pram 0, weak 1, causal 2, converge 3, sequential 4"; strict 5 (document 02, T-06); any other number is no
-- criterion.
abbrev pub wanted_of : ℕ → Option Criterion
wanted_of zero = some Pram
wanted_of (suc zero) = some Weak
wanted_of (suc (suc zero)) = some Causal
wanted_of (suc (suc (suc zero))) = some Converge
wanted_of (suc (suc (suc (suc zero)))) = some Sequential
wanted_of (suc (suc (suc (suc (suc zero))))) = some Strict
wanted_of (suc (suc (suc (suc (suc (suc n)))))) = none

abbrev pub weakened_wanted : List ℕ → List ℕ → Option Criterion → Option (List ℕ)
weakened_wanted history text none = none
weakened_wanted history text (some w) = weakened_text history text w

-- What weakening answers, the length and the buffer afterwards. A weakening does not ask whether updates cross.
unfoldable pub weaken_answer : List ℕ → List ℕ → ℕ → List ℕ → Verdict
weaken_answer history text wanted buffer =
    made_verdict history text false (weakened_wanted history text (wanted_of wanted)) buffer

unfoldable pub weaken_length : List ℕ → List ℕ → ℕ → List ℕ → ℕ
weaken_length history text wanted buffer =
    length_made (weaken_answer history text wanted buffer) (weakened_wanted history text (wanted_of wanted))

unfoldable pub weaken_bytes : List ℕ → List ℕ → ℕ → List ℕ → List ℕ
weaken_bytes history text wanted buffer =
    bytes_made (weaken_answer history text wanted buffer) (weakened_wanted history text (wanted_of wanted)) buffer
