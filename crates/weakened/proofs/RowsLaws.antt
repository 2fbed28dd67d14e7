-- Laws of lists, rows and lengths that are made one after the other. Assumes nothing.
use Prim.Native.Nat.{ℕ, ◌+◌, ◌<◌}
use native.Mathlib.Numerals.{add-one}
use mathlib.Core.Path.{◌≡◌, sym, ap, ap₂, ◌∙◌}
use mathlib.Core.List.{List, [], ◌∷◌, map, map-append}
use lib.ListN.{length, set, replicate, length-map}
use Rattle.history.specs.Record.{pad}
use Rattle.history.proofs.PadLaws.{pad-none, pad-set}
use Rattle.certificate.specs.declared.record.EventList.{EventList}
use Rattle.certificate.specs.Record.{no_list, no_row, event_list_of, row_of, rows_of}
use Rattle.criteria.specs.Tests.{table}
use Rattle.criteria.proofs.Lists.{length-table}
use Rattle.weakened.specs.Steps.{lengths_of}

-- one more of what is made of a table's entries
pub made_more : {A B : Type 0} (blank : B) (g : A → B) (f : ℕ → A) (i : ℕ) → i < 64
    → set (pad 64 blank (map g (table i f))) i (g (f i)) ≡ pad 64 blank (map g (table (i + 1) f))
made_more blank g f i h =
    pad-set 64 blank (map g (table i f)) i (g (f i)) (sym (length-map (table i f) g ∙ length-table i f)) h
    ∙ ap (pad 64 blank) (sym (rw add-one (map-append g (table i f) (f i ∷ []))))

pub rows_more : (f : ℕ → List ℕ) (i : ℕ) → i < 64 → set (rows_of (table i f)) i (row_of (f i)) ≡ rows_of (table (i + 1) f)
unfolding rows_of
rows_more f i h = made_more no_row row_of f i h

pub lengths-more : (f : ℕ → List ℕ) (i : ℕ) → i < 64 → set (lengths_of (table i f)) i (length (f i)) ≡ lengths_of (table (i + 1) f)
unfolding lengths_of
lengths-more f i h = made_more 0 length f i h

pub lists-more : (f : ℕ → List ℕ) (i : ℕ) → i < 64
    → set (pad 64 no_list (map event_list_of (table i f))) i (event_list_of (f i)) ≡ pad 64 no_list (map event_list_of (table (i + 1) f))
lists-more f i h = made_more no_list event_list_of f i h

-- ---- the rows and the lengths of views, each made as a list of events
pub no_rows : replicate 64 (replicate 64 0) ≡ rows_of []
unfolding rows_of
no_rows = sym (pad-none 64 no_row)

pub no_lengths : replicate 64 0 ≡ lengths_of []
unfolding lengths_of
no_lengths = sym (pad-none 64 0)

module _ (f : ℕ → List ℕ) (i : ℕ) (h : i < 64) (l : EventList) (q : l ≡ event_list_of (f i)) where
  pub row-set : (rows : List (List ℕ)) → rows ≡ rows_of (table i f) → set rows i l.events ≡ rows_of (table (i + 1) f)
  unfolding event_list_of row_of
  row-set rows e = ap₂ (λ (r : List (List ℕ)) (x : EventList). set r i x.events) e q ∙ rows_more f i h

  pub length-set-in : (counts : List ℕ) → counts ≡ lengths_of (table i f) → set counts i l.count ≡ lengths_of (table (i + 1) f)
  unfolding event_list_of
  length-set-in counts e = ap₂ (λ (r : List ℕ) (x : EventList). set r i x.count) e q ∙ lengths-more f i h
