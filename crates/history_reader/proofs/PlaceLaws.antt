-- The line that a place names lies within its text, and the faulty line of a refusal within the history text. Assumes nothing.
use Prim.Native.Nat.{ℕ, ◌+◌, ◌≤◌}
use native.Mathlib.Omega.{arith}
use mathlib.Core.Path.{◌≡◌, sym, subst}
use mathlib.Core.List.{List}
use lib.ListN.{length}
use borrow.Author.Tests.{eq-eqb, ne_eqb}
use Rattle.std.specs.Prelude.{Err}
use Rattle.layout.proofs.Cases.{by-eq}
use Rattle.history_reader.specs.Place.{Text, line_place, HistoryText, Place, nowhere, faulty_place, text_named}
use Rattle.history_reader.specs.declared.read.Refusal.{Refusal}
use Rattle.history_reader.proofs.EachReading.{each-reading}
use Rattle.history_reader.specs.ReadHistory.{HistoryRead, history_read, read_history}

-- The numbers of a place fit the text t, which has n bytes; and the text that it names, whatever that is.
pub record PartOf (t : Text) (n : ℕ) (p : Place) : Type 0 where
  pub line : p.line ≤ n + 1
  pub from : p.start ≤ p.end
  pub to : p.end ≤ n
  pub within : (history text : List ℕ) → n ≤ length (text_named t history text) → p.end ≤ length (text_named p.text history text)

pub part-nowhere : (t : Text) (n : ℕ) → PartOf t n nowhere
part-nowhere t n = record { line = omega arith; from = omega arith; to = omega arith; within = λ history text h. omega arith }

pub part-faulty : (t : Text) (n line at size : ℕ) → line ≤ at + 1 → at + size ≤ n → PartOf t n (faulty_place t line at size)
part-faulty t n line at size l h =
    by-eq size 0
    (λ z. record { line = omega arith; from = rw (eq-eqb size 0 z) (omega arith); to = rw (eq-eqb size 0 z) (omega arith); within = λ history text k. rw (eq-eqb size 0 z) (omega arith) })
    (λ z. record { line = omega arith; from = rw (ne_eqb size 0 z) (omega arith); to = rw (ne_eqb size 0 z) (omega arith); within = λ history text k. rw (ne_eqb size 0 z) (omega arith) })

-- ---- of a history text that was read
abbrev pub Placed : ℕ → HistoryRead → Type 0
Placed n r = PartOf HistoryText n r.place

-- the faulty line of a text is a part of it
pub placed-history : (text : List ℕ) → Placed (length text) (read_history text)
placed-history text =
    each-reading (Placed (length text)) (length text) (λ os es h k. part-nowhere HistoryText (length text))
    (λ fault line at size f l h. part-faulty HistoryText (length text) line at size l h)
    text
    (omega arith)

-- the same of a refusal by the code
pub placed-refused : (text : List ℕ) (r : Refusal) → history_read (Err r) ≡ read_history text → PartOf HistoryText (length text) (line_place r.place)
placed-refused text r e = subst (λ (h : HistoryRead). Placed (length text) h) (sym e) (placed-history text)
