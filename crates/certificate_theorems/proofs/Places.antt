-- The numbers of a place that a reading names, of its line and of its end, are small. Assumes nothing.
use Prim.Native.Nat.{ℕ, ◌≤◌}
use native.Mathlib.Omega.{arith}
use mathlib.Core.List.{List}
use lib.ListN.{length}
use lib.Dec.{eqb, leb}
use borrow.Author.Tests.{leb-true}
use Rattle.layout.proofs.Cases.{by_bool}
use Rattle.history.specs.declared.record.Event.{Event}
use Rattle.history.specs.Record.{events_in}
use Rattle.history_reader.specs.Place.{Text, Place}
use Rattle.history_reader.specs.ReadHistory.{read_history}
use Rattle.history_reader.proofs.PlaceLaws.{PartOf, placed-history}
use Rattle.certificate_reader.specs.ReadCertificate.{read_lines, read_certificate}
use Rattle.certificate_reader.proofs.PlaceLaws.{placed-text}

pub record Small (p : Place) : Type 0 where
  pub line : p.line ≤ 32769
  pub end : p.end ≤ 32768

small-part : (t : Text) (n : ℕ) (p : Place) → n ≤ 32768 → PartOf t n p → Small p
small-part t n p h part = record { line = omega (arith, part.line); end = omega (arith, part.to) }

small-history : (history : List ℕ) → Small (read_history history).place
unfolding read_history
small-history history =
    by_bool (leb (length history) 16384)
    (λ e. small-part _ (length history) _ (omega (arith, leb-true (length history) 16384 e)) (placed-history history))
    (λ e. rw e (record { line = omega arith; end = omega arith }))

small-lines : (es : List Event) (text : List ℕ) → Small (read_lines es text).place
unfolding read_lines
small-lines es text =
    by_bool (leb (length text) 32768)
    (λ e. small-part _ (length text) _ (omega (arith, leb-true (length text) 32768 e)) (placed-text es text))
    (λ e. rw e (record { line = omega arith; end = omega arith }))

pub small-two : (history text : List ℕ) → Small (read_certificate history text).place
unfolding read_certificate
small-two history text =
    by_bool (eqb (read_history history).fault 0)
    (λ e. rw e (small-lines (events_in (read_history history).history) text))
    (λ e. rw e (small-history history))
