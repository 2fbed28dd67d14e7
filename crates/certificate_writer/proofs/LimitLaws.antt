-- Laws of the limits of a certificate record and its rows. Assumes nothing.
use Prim.Native.Nat.{ℕ, zero, suc, ◌≤◌, ◌<◌}
use native.Mathlib.Nat.{not-suc-le-zero}
use native.Mathlib.Omega.{arith}
use mathlib.Core.Path.{◌≡◌, refl}
use mathlib.Core.Bool.{Bool, true, ◌&&◌, cond, false≢true}
use mathlib.Core.List.{List, [], ◌∷◌}
use lib.ListN.{length, get_or, take, drop}
use lib.Dec.{eqb, leb}
use borrow.Author.Tests.{leb-true, eqb-true}
use Rattle.layout.proofs.Cases.{and_left, and_right}
use Rattle.history.specs.declared.record.History.{History}
use Rattle.history.specs.Record.{events_in}
use Rattle.history.specs.Readable.{all_less, all_zero}
use Rattle.certificate.specs.declared.record.EventList.{EventList}
use Rattle.certificate.specs.declared.record.Certificate.{Certificate}
use Rattle.certificate.specs.declared.numbers.ViewNumbers.{ViewNumbers}
use Rattle.certificate.specs.Steps.Numbers.{view_numbers_of}
use Rattle.certificate.specs.Record.{no_list, entries_in}
use Rattle.certificate.specs.Criteria.{has_pasts, view_numbers}
use Rattle.certificate.specs.Faults.{rising}
use Rattle.certificate.specs.Readable.{good_row, good_pasts, blank_lists, good_rows, blank_rows, fits}
use Rattle.certificate_writer.specs.Steps.Lines.{parts_fit}

-- ---- a row within its limits has no more events than there are
pub row_few : (count n : ℕ) (row : List ℕ) → good_row count n row ≡ true → n ≤ count
unfolding good_row
row_few count n row g =
    let b₁ : Bool = leb n count in
    let b₂ : Bool = b₁ && all_less count (take n row) in
    let b₃ : Bool = b₂ && eqb (length row) 64 in
    leb-true n count
    (and_left b₁ (all_less count (take n row)) (and_left b₂ (eqb (length row) 64) (and_left b₃ (all_zero (drop n row)) g)))

past_few : (count : ℕ) (ls : List EventList) (i : ℕ) → i < length ls → good_pasts count ls ≡ true → (get_or ls i no_list).count ≤ count
unfolding good_pasts
past_few count [] i h g = absurd (not-suc-le-zero h)
past_few count (l ∷ ls) zero h g =
    let b₁ : Bool = good_row count l.count l.events in
    row_few count l.count l.events (and_left b₁ (rising (entries_in l)) (and_left (b₁ && rising (entries_in l)) (good_pasts count ls) g))
past_few count (l ∷ ls) (suc i) h g =
    past_few count ls i (omega arith) (and_right (good_row count l.count l.events && rising (entries_in l)) (good_pasts count ls) g)

view_few : (count : ℕ) (ns : List ℕ) (rows : List (List ℕ)) (i : ℕ) → i < length ns → good_rows count ns rows ≡ true → get_or ns i 0 ≤ count
unfolding good_rows
view_few count [] rows i h g = absurd (not-suc-le-zero h)
view_few count (n ∷ ns) [] i h g = absurd (false≢true g)
view_few count (n ∷ ns) (row ∷ rows) zero h g = row_few count n row (and_left (good_row count n row) (good_rows count ns rows) g)
view_few count (n ∷ ns) (row ∷ rows) (suc i) h g = view_few count ns rows i (omega arith) (and_right (good_row count n row) (good_rows count ns rows) g)

-- ---- a record with k pasts and m views, and its rows
module _ (count k m : ℕ) (c : Certificate) (rows : List (List ℕ)) where
  pub record Parts : Type 0 where
    pub long : length c.pasts ≡ 64
    pub lengths_long : length c.lengths ≡ 64
    pub rows_long : length rows ≡ 64
    pub pasts : good_pasts count (take k c.pasts) ≡ true
    pub views : good_rows count (take m c.lengths) (take m rows) ≡ true

  pub parts_facts : parts_fit count k m c rows ≡ true → Parts
  unfolding parts_fit
  parts_facts e =
      let b₁ : Bool = eqb (length c.pasts) 64 in
      let b₂ : Bool = b₁ && eqb (length c.lengths) 64 in
      let b₃ : Bool = b₂ && eqb (length rows) 64 in
      let b₄ : Bool = b₃ && good_pasts count (take k c.pasts) in
      let b₅ : Bool = b₄ && good_rows count (take m c.lengths) (take m rows) in
      let b₆ : Bool = b₅ && blank_lists (drop k c.pasts) in
      let b₇ : Bool = b₆ && all_zero (drop m c.lengths) in
      let e₇ = and_left b₇ (blank_rows (drop m rows)) e in
      let e₆ = and_left b₆ (all_zero (drop m c.lengths)) e₇ in
      let e₅ = and_left b₅ (blank_lists (drop k c.pasts)) e₆ in
      let e₄ = and_left b₄ (good_rows count (take m c.lengths) (take m rows)) e₅ in
      let e₃ = and_left b₃ (good_pasts count (take k c.pasts)) e₄ in
      let e₂ = and_left b₂ (eqb (length rows) 64) e₃ in
      record {
        long = eqb-true (length c.pasts) 64 (and_left b₁ (eqb (length c.lengths) 64) e₂);
        lengths_long = eqb-true (length c.lengths) 64 (and_right b₁ (eqb (length c.lengths) 64) e₂);
        rows_long = eqb-true (length rows) 64 (and_right b₂ (eqb (length rows) 64) e₃);
        pasts = and_right b₃ (good_pasts count (take k c.pasts)) e₄;
        views = and_right b₄ (good_rows count (take m c.lengths) (take m rows)) e₅;
      }

  module _ (p : Parts) (i : ℕ) where
    pub past_short : i < length (take k c.pasts) → (get_or (take k c.pasts) i no_list).count ≤ count
    past_short h = past_few count (take k c.pasts) i h p.pasts

    pub view_short : i < length (take m c.lengths) → get_or (take m c.lengths) i 0 ≤ count
    view_short h = view_few count (take m c.lengths) (take m rows) i h p.views

-- ---- the limits are those of so many pasts and views as the history's events say
module _ (h : History) (c : Certificate) (rows : List (List ℕ)) (all : length (events_in h) ≡ h.count) (v : ViewNumbers)
    (are : v ≡ view_numbers_of (view_numbers c.criterion (events_in h))) where
  pub fits_is : parts_fit h.count (cond (has_pasts c.criterion) h.count 0) v.count c rows ≡ fits (events_in h) c rows
  unfolding parts_fit fits view_numbers_of
  fits_is = rw (are, all) refl
