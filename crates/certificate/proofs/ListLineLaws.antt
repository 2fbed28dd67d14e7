-- Laws of a line of a number and a list of events. Assumes nothing.
use Prim.Native.Nat.{ℕ, ◌≤◌, ◌<◌}
use native.Mathlib.Omega.{arith}
use mathlib.Core.Path.{◌≡◌, sym, ap, ◌∙◌}
use mathlib.Core.Bool.{Bool, true, false, cond, not, ◌||◌}
use mathlib.Core.List.{List, ◌++◌}
use lib.ListN.{length, get_or, take, drop, replicate, length-replicate}
use lib.Seq.{length-take-le}
use borrow.Author.Tests.{le-leb}
use Rattle.std.proofs.Common.{Result, Ok, Err}
use Rattle.std.specs.Result.{IsErrAnd}
use Rattle.layout.specs.declared.list.ListFault.{ListFault}
use Rattle.layout.specs.declared.list.ListFault.TheVariants.{NotList, Over, Many}
use Rattle.layout.specs.Word.{same}
use Rattle.layout.specs.Number.{spell}
use Rattle.layout.specs.Fill.{fill}
use Rattle.layout.specs.List.{items_of, list_of, numbers_of, leading}
use Rattle.layout.proofs.ListLaws.{is-list, leading-numbers, list-not, list_over, list-many, numbers-count, numbers-below}
use Rattle.history.specs.declared.fault.Fault.{Fault}
use Rattle.history.specs.Record.{pad}
use Rattle.history.proofs.PadLaws.{pad-length, take-pad, pad_part, pad_below}
use Rattle.history.specs.Steps.Fields.{listed_fault}
use Rattle.certificate.specs.declared.record.EventList.{EventList}
use Rattle.certificate.specs.Record.{no_list, event_list_of}
use Rattle.certificate.specs.Faults.{rising, list_layout, list_limits, pair_fault}
use Rattle.certificate.specs.Steps.Lists.{list_line_of, list_with, pair_read}

-- ---- the two fields of a line
module _ (past : Bool) (count own : ℕ) (a s : List ℕ) where
  pub pair-number : same a (spell own) ≡ false → record { fault = 2; list = no_list } ≡ pair_read past count own a s
  unfolding pair_read pair_fault list_layout
  pair-number e = rw e

  pub pair_over : same a (spell own) ≡ true → (m : ℕ) → list_of count m s ≡ Err Over → record { fault = 3; list = no_list } ≡ pair_read past count own a s
  unfolding pair_read pair_fault list_layout list_limits
  pair_over e m q = let t = list_over count m s q in rw (e, t.0, t.1)

  -- the list is read into `count` places
  module _ (e : same a (spell own) ≡ true) (ps : List ℕ) (long : length ps ≡ count) where
    -- it is no list of such numbers
    pair-unread : (f : ListFault) → list_of count (length ps) s ≡ Err f → list_line_of (Err (listed_fault f)) ≡ pair_read past count own a s
    unfolding pair_read pair_fault list_layout list_limits
    pair-unread NotList q = rw (e, list-not count (length ps) s q)
    pair-unread Over q = pair_over e (length ps) q
    pair-unread Many q = let t = list-many count (length ps) s q in rw (e, t.0, t.1, rw long at t.2)

    pub pair-refused : (f : ListFault) → list_of count (length ps) s ≡ Err f → (r : Result EventList Fault) → IsErrAnd r (λ g. g ≡ listed_fault f)
        → list_line_of r ≡ pair_read past count own a s
    pair-refused f q (Ok l) m = absurd m
    pair-refused f q (Err g) m = rw m (pair-unread f q)

    -- it is one, and its numbers are xs
    module _ (n : ℕ) (q : list_of count (length ps) s ≡ Ok n) (xs : List ℕ) (k : xs ≡ numbers_of s) where
      pair-listed : list_with (cond (not past || rising xs) 0 6) xs ≡ pair_read past count own a s
      unfolding pair_read pair_fault list_layout list_limits
      pair-listed =
          let l = is-list count (length ps) n s q in
          let m : length (items_of s) ≤ count = omega (arith, l.count, l.few) in
          rw (k, e, l.numbers, l.small, le-leb (length (items_of s)) count m)

      pub pair-good : not past || rising xs ≡ true → record { fault = 0; list = event_list_of xs } ≡ pair_read past count own a s
      pair-good r =
          let e : list_with (cond (not past || rising xs) 0 6) xs ≡ record { fault = 0; list = event_list_of xs } = rw r in sym e ∙ pair-listed

      pub pair-falls : not past || rising xs ≡ false → record { fault = 6; list = no_list } ≡ pair_read past count own a s
      pair-falls r =
          let e : list_with (cond (not past || rising xs) 0 6) xs ≡ record { fault = 6; list = no_list } = rw r in sym e ∙ pair-listed

-- ---- the 64 places, of which the first were lent to the reader, are the row of the list's numbers
-- the first n of them are the numbers of the field s
pub record Kept (n : ℕ) (s ys : List ℕ) : Type 0 where
  pub numbers : take n ys ≡ numbers_of s
  pub count : length (take n ys) ≡ n
  pub long : length ys ≡ 64
  pub few : n ≤ length ys
  pub below : (i : ℕ) → get_or ys i 0 < 64
  pub list : (es : List ℕ) → es ≡ ys → event_list_of (take n ys) ≡ record { count = n; events = es }

module _ (count n : ℕ) (s xs : List ℕ) (room : count ≤ 64) (ps : List ℕ) (lent : ps ≡ take count (replicate 64 0)) (q : list_of count (length ps) s ≡ Ok n)
    (k : xs ≡ fill (leading count (length ps) (items_of s)) ps) (ys : List ℕ) (whole : ys ≡ xs ++ drop count (replicate 64 0)) where
  lent-long : length ps ≡ count
  lent-long = ap length lent ∙ length-take-le count (replicate 64 0) (omega (arith, length-replicate {A = ℕ} 64 0))

  row : ys ≡ pad 64 0 (numbers_of s)
  row =
      let l = is-list count (length ps) n s q in
      let e : xs ≡ fill (numbers_of s) (take count (replicate 64 0)) =
      k ∙ ap (λ (t : List ℕ). fill t ps) (leading-numbers count (length ps) n s l) ∙ ap (fill (numbers_of s)) lent in
      whole ∙ ap (λ (t : List ℕ). t ++ drop count (replicate 64 0)) e
      ∙ pad_part 64 count (numbers_of s) (omega (arith, numbers-count l, l.few, lent-long)) room

  numbers : take n ys ≡ numbers_of s
  numbers =
      let c = numbers-count (is-list count (length ps) n s q) in
      ap (take n) row ∙ ap (λ (i : ℕ). take i (pad 64 0 (numbers_of s))) (sym c) ∙ take-pad 64 0 (numbers_of s)

  long : length ys ≡ 64
  long =
      let l = is-list count (length ps) n s q in
      ap length row ∙ pad-length 64 0 (numbers_of s) (omega (arith, numbers-count l, l.few, lent-long))

  pub kept : Kept n s ys
  unfolding event_list_of
  kept =
      let l = is-list count (length ps) n s q in
      record {
        numbers = numbers;
        count = ap length numbers ∙ numbers-count l;
        long = long;
        few = omega (arith, long, l.few, lent-long);
        below = λ i. rw row (pad_below 64 (numbers_of s) 64 (omega arith) (λ j h. omega (arith, numbers-below l j (omega (arith, numbers-count l)), lent-long)) i);
        list = λ es e. rw (e, numbers, row, numbers-count l);
      }
