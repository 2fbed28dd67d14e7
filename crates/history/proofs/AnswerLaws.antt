-- Laws of a field that holds an answer. Assumes nothing.
use Prim.Native.Nat.{ℕ, ◌≤◌, ◌<◌}
use native.Mathlib.Omega.{arith}
use mathlib.Core.Path.{◌≡◌, ap, ◌∙◌}
use mathlib.Core.Bool.{false}
use mathlib.Core.List.{List}
use lib.ListN.{length, get_or, replicate}
use borrow.Author.Tests.{le-leb}
use Rattle.std.specs.Prelude.{Some, Ok}
use Rattle.layout.specs.Fill.{fill}
use Rattle.layout.specs.List.{items_of, list_of, leading, numbers_of}
use Rattle.layout.proofs.ListLaws.{is-list, leading-numbers, numbers-count, numbers-below}
use Rattle.history.specs.Record.{value_bound, pad, answer_of}
use Rattle.history.specs.Faults.{is_lost, answer_items, answer_said}
use Rattle.history.specs.Steps.Fields.{answer_short, answer_field}
use Rattle.history.proofs.PadLaws.{pad_filled, pad_below}

-- what was read of a field that is a list of at most eight values
module _ (f : List ℕ) (n : ℕ) (q : list_of value_bound 8 f ≡ Ok n) (xs : List ℕ)
    (e : xs ≡ fill (leading value_bound 8 (items_of f)) (replicate 8 0)) where
  answer-pads : xs ≡ pad 8 0 (numbers_of f)
  answer-pads =
      e ∙ ap (λ (l : List ℕ). fill l (replicate 8 0)) (leading-numbers value_bound 8 n f (is-list value_bound 8 n f q))
      ∙ pad_filled 8 (numbers_of f)

  pub answer-below : (k : ℕ) → get_or xs k 0 < value_bound
  answer-below k =
      let l = is-list value_bound 8 n f q in
      rw answer-pads (pad_below 8 (numbers_of f) value_bound (omega arith) (λ i h. numbers-below l i (omega (arith, numbers-count l))) k)

  pub answer-listed : (ys : List ℕ) → ys ≡ xs → is_lost f ≡ false
      → answer_field f ≡ Ok (Ok (Some (record { lost = false; count = n; values = ys })))
  unfolding answer_field answer_short answer_items answer_said answer_of
  answer-listed ys s d =
      let l = is-list value_bound 8 n f q in
      let k : length (items_of f) ≤ 8 = omega (arith, l.count, l.few) in
      rw (d, l.numbers, l.small, le-leb (length (items_of f)) 8 k, numbers-count l, s, answer-pads)
