-- What holds of each reading of a history text, where it holds of a record that was read and of a refused line of the text. Assumes nothing.
use Prim.Native.Nat.{ℕ, ◌+◌, ◌≤◌, ◌<◌}
use native.Mathlib.Omega.{arith}
use mathlib.Core.Path.{◌≡◌, refl, ap}
use mathlib.Core.Bool.{Bool, true, cond}
use mathlib.Core.List.{List, [], ◌∷◌, ◌++◌}
use lib.ListN.{length, length-append}
use lib.Dec.{eqb, leb}
use borrow.Author.Tests.{eqb-true}
use Rattle.std.proofs.lemmas.Bool.{cond_both}
use Rattle.layout.specs.Split.{split, join}
use Rattle.layout.specs.Word.{same, object_heading, event_heading}
use Rattle.layout.proofs.SplitLaws.{join-split, join_one, join_more}
use Rattle.history.specs.declared.record.Object.{Object}
use Rattle.history.specs.declared.record.Event.{Event}
use Rattle.history.specs.Faults.{object_line, event_line}
use Rattle.history.proofs.FaultLaws.{IsFault, fault-object, fault-event}
use Rattle.history_reader.specs.ReadHistory.{HistoryRead, refusal, read_as, events_from, objects_from, lines_from, read_history}
use Rattle.history_reader.proofs.ReadLaws.{object-own, event-own}

-- a record that was read has at most 16 objects and 64 events; a refused line has a place in the text, of n bytes
module _ (Q : HistoryRead → Type 0) (n : ℕ)
    (good : (os : List Object) (es : List Event) → length os ≤ 16 → length es ≤ 64 → Q (read_as os es))
    (bad : (fault line at size : ℕ) → IsFault fault → line ≤ at + 1 → at + size ≤ n → Q (refusal fault line at size)) where
  layout : (line at size : ℕ) → line ≤ at + 1 → at + size ≤ n → Q (refusal 2 line at size)
  layout line at size = bad 2 line at size (λ z. refl)

  either : (t : Bool) (r q : HistoryRead) → (t ≡ true → Q r) → Q q → Q (cond t r q)
  either t r q p s = cond_both t r q Q p (λ e. s)

  events : (os : List Object) (es : List Event) (line at : ℕ) (ps : List (List ℕ)) → length os ≤ 16 → length es ≤ 64
      → line ≤ at + 1 → at + length (join 10 ps) ≤ n → Q (events_from os es line at ps)
  unfolding events_from
  events os es line at [] h k l m = layout line at 0 l (omega arith)
  events os es line at (p ∷ []) h k l m =
      either (eqb (length p) 0) (read_as os es) (refusal 2 line at (length p)) (λ z. good os es h k)
      (layout line at (length p) l (omega (arith, join_one 10 p)))
  events os es line at (p ∷ q ∷ ps) h k l m =
      let x = event_line (length es) os p in
      either (eqb x.fault 0)
      (events_from os (es ++ x.event ∷ []) (line + 1) (at + length p + 1) (q ∷ ps))
      (refusal x.fault line at (length p))
      (λ z.
      let own : length es < 64 = event-own (length es) os p (eqb-true (event_line (length es) os p).fault 0 z) in
      events os (es ++ (event_line (length es) os p).event ∷ []) (line + 1) (at + length p + 1) (q ∷ ps) h
      (omega (arith, length-append es ((event_line (length es) os p).event ∷ []))) (omega arith) (omega (arith, join_more 10 p q ps)))
      (bad x.fault line at (length p) (fault-event (length es) os p) l (omega (arith, join_more 10 p q ps)))

  objects : (os : List Object) (line at : ℕ) (ps : List (List ℕ)) → length os ≤ 16 → line ≤ at + 1 → at + length (join 10 ps) ≤ n
      → Q (objects_from os line at ps)
  unfolding objects_from
  objects os line at [] h l m = layout line at 0 l (omega arith)
  objects os line at (p ∷ []) h l m = layout line at (length p) l (omega (arith, join_one 10 p))
  objects os line at (p ∷ q ∷ ps) h l m =
      let x = object_line (length os) p in
      let more = objects_from (os ++ x.object ∷ []) (line + 1) (at + length p + 1) (q ∷ ps) in
      let refused = refusal x.fault line at (length p) in
      either (same p event_heading) (events_from os [] (line + 1) (at + length p + 1) (q ∷ ps)) (cond (eqb x.fault 0) more refused)
      (λ w. events os [] (line + 1) (at + length p + 1) (q ∷ ps) h (omega arith) (omega arith) (omega (arith, join_more 10 p q ps)))
      (either (eqb x.fault 0) more refused
      (λ z.
      let own : length os < 16 = object-own (length os) p (eqb-true (object_line (length os) p).fault 0 z) in
      objects (os ++ (object_line (length os) p).object ∷ []) (line + 1) (at + length p + 1) (q ∷ ps)
      (omega (arith, length-append os ((object_line (length os) p).object ∷ []))) (omega arith) (omega (arith, join_more 10 p q ps)))
      (bad x.fault line at (length p) (fault-object (length os) p) l (omega (arith, join_more 10 p q ps))))

  lines : (ps : List (List ℕ)) → length (join 10 ps) ≤ n → Q (lines_from ps)
  unfolding lines_from
  lines [] m = layout 1 0 0 (omega arith) (omega arith)
  lines (p ∷ []) m = layout 1 0 (length p) (omega arith) (omega (arith, join_one 10 p))
  lines (p ∷ q ∷ ps) m =
      either (same p object_heading) (objects_from [] 2 (length p + 1) (q ∷ ps)) (refusal 2 1 0 (length p))
      (λ w. objects [] 2 (length p + 1) (q ∷ ps) (omega arith) (omega arith) (omega (arith, join_more 10 p q ps)))
      (layout 1 0 (length p) (omega arith) (omega (arith, join_more 10 p q ps)))

  pub each-reading : (text : List ℕ) → length text ≤ n → Q (read_history text)
  unfolding read_history
  each-reading text m =
      either (leb (length text) 16384) (lines_from (split 10 text)) (refusal 1 0 0 0)
      (λ z. lines (split 10 text) (omega (arith, ap length (join-split 10 text))))
      (bad 1 0 0 0 (λ z. refl) (omega arith) (omega arith))
