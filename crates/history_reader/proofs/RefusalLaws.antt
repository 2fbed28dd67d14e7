-- A refused reading has the number of a fault and a place in the text that was read. Assumes nothing.
use Prim.Native.Nat.{ℕ}
use native.Mathlib.Omega.{arith}
use mathlib.Core.Path.{◌≡◌, refl}
use mathlib.Core.List.{List}
use lib.ListN.{length}
use Rattle.history.proofs.FaultLaws.{IsFault, fault_no}
use Rattle.history_reader.specs.Place.{Text, Place, HistoryText, nowhere, faulty_place}
use Rattle.history_reader.proofs.EachReading.{each-reading}
use Rattle.history_reader.specs.ReadHistory.{HistoryRead, read_history}

-- The number is 0 or that of a fault, and in the second case P holds of the text that the place names.
pub record Refuses (P : Text → Type 0) (n : ℕ) (p : Place) : Type 0 where
  pub number : IsFault n
  pub text : (n ≡ 0 → ⊥) → P p.text

module _ (P : Text → Type 0) where
  pub refuses-nowhere : Refuses P 0 nowhere
  refuses-nowhere = record { number = fault_no; text = λ n. absurd (n refl) }

module _ {P : Text → Type 0} {t : Text} (h : P t) where
  pub refuses-faulty : (n line at size : ℕ) → IsFault n → Refuses P n (faulty_place t line at size)
  refuses-faulty n line at size f = record { number = f; text = λ z. h }

  -- the layout is wrong
  pub refuses-layout : (line at size : ℕ) → Refuses P 2 (faulty_place t line at size)
  refuses-layout line at size = refuses-faulty 2 line at size (λ n. refl)

-- ---- of a history text that was read
pub refuses-history : (P : Text → Type 0) → P HistoryText → (text : List ℕ) → Refuses P (read_history text).fault (read_history text).place
refuses-history P h text =
    each-reading (λ (r : HistoryRead). Refuses P r.fault r.place) (length text) (λ os es i j. refuses-nowhere P)
    (λ fault line at size f i j. refuses-faulty h fault line at size f)
    text
    (omega arith)
