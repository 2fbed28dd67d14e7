-- The theorems of writing a history: what 9 means, and what is read is written back. Assumes nothing.
use Prim.Native.Nat.{ℕ, ◌≤◌}
use native.Mathlib.Omega.{arith}
use mathlib.Core.Path.{◌≡◌, refl, sym, ap, ◌∙◌}
use mathlib.Core.Bool.{Bool, true, false}
use mathlib.Core.List.{List}
use lib.ListN.{length}
use lib.Dec.{leb}
use borrow.Author.Tests.{le-leb}
use Rattle.layout.specs.Fill.{fill}
use Rattle.layout.proofs.Cases.{by_bool}
use Rattle.layout.proofs.FillLaws.{after-fits}
use Rattle.history.specs.declared.record.History.{History}
use Rattle.history.specs.HistoryText.{history_text}
use Rattle.history.specs.Readable.{within}
use Rattle.history_reader.specs.ReadHistory.{HistoryRead}
use Rattle.history_reader.specs.ReadHistory.{read_history}
use Rattle.history_writer.specs.WriteHistory.{history_written, history_after}
use Rattle.history_theorems.proofs.Theorems.{written_read, read-written, read-within}

-- a readable text stands for the record: it is read as that record
pub record Stands (h : History) (text : List ℕ) : Type 0 where
  pub readable : (read_history text).fault ≡ 0
  pub reads : (read_history text).history ≡ h

stands-within : (h : History) (text : List ℕ) → Stands h text → within h ≡ true
stands-within h text s = ap within (sym s.reads) ∙ read-within text s.readable

within-stands : (h : History) → within h ≡ true → Stands h (history_text h)
within-stands h w =
    let r = written_read h w in
    record { readable = ap (λ (x : HistoryRead). x.fault) r; reads = ap (λ (x : HistoryRead). x.history) r }

module _ (h : History) (buf : List ℕ) where
  outside : within h ≡ false → (history_written h buf).number ≡ 9
  unfolding history_written
  outside w = rw w

  -- within its limits a record is refused with 18 at most
  inside : within h ≡ true → (t : Bool) → leb (length (history_text h)) (length buf) ≡ t → (history_written h buf).number ≡ 9 → ⊥
  unfolding history_written
  inside w true e n = let z : ◌≡◌ {A = ℕ} 0 9 = rw (w, e) at n in absurd (omega arith)
  inside w false e n = let z : ◌≡◌ {A = ℕ} 18 9 = rw (w, e) at n in absurd (omega arith)

  -- 9 exactly when no readable text stands for the record
  pub nine-none : (history_written h buf).number ≡ 9 → (text : List ℕ) → Stands h text → ⊥
  nine-none n text s = inside (stands-within h text s) (leb (length (history_text h)) (length buf)) refl n

  pub none-nine : ((text : List ℕ) → Stands h text → ⊥) → (history_written h buf).number ≡ 9
  none-nine none =
      by_bool (within h) (λ w. absurd (none (history_text h) (within-stands h w))) (λ w. outside w)

-- what was read is written back, the same bytes, into every buffer that has room
module _ (text buf : List ℕ) (readable : (read_history text).fault ≡ 0) (room : length text ≤ length buf) where
  same_text : history_text (read_history text).history ≡ text
  same_text = read-written text readable

  pub back-answer : history_written (read_history text).history buf ≡ record { number = 0; length = length text }
  unfolding history_written
  back-answer = rw (read-within text readable, same_text, le-leb (length text) (length buf) room)

  pub back-bytes : history_after (read_history text).history buf ≡ fill text buf
  unfolding history_after
  back-bytes = rw (read-within text readable, same_text) (after-fits text buf room)
