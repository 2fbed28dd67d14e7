-- What the reader guarantees to the layers above, as one record of facts. Assumes nothing.
use Prim.Native.Nat.{ℕ}
use mathlib.Core.Path.{◌≡◌}
use mathlib.Core.List.{List}
use Rattle.history.proofs.Guarantees.{Sound, within-sound}
use Rattle.history_reader.specs.ReadHistory.{read_history}
use Rattle.history_theorems.proofs.Theorems.{read-within}

-- a history that was read
pub read-sound : (text : List ℕ) → (read_history text).fault ≡ 0 → Sound (read_history text).history
read-sound text z = within-sound (read_history text).history (read-within text z)
