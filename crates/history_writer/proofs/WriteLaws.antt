-- The lines of objects and of events as pieces of a text, and the whole text. Assumes nothing.
use Prim.Native.Nat.{ℕ, zero, suc, ◌+◌, ◌≤◌, ◌<◌}
use native.Mathlib.Numerals.{add-one}
use native.Mathlib.Omega.{arith}
use mathlib.Core.Path.{◌≡◌, refl, sym, ap, ap₂, ◌∙◌}
use mathlib.Core.Bool.{true, false}
use mathlib.Core.List.{List, [], ◌∷◌, ◌++◌}
use lib.ListN.{length, get_or, drop, drop_of_length-le}
use lib.Seq.{drop-cons}
use borrow.Author.Tests.{le-leb, lt-leb}
use Rattle.std.specs.Prelude.{Ok, Err}
use Rattle.layout.specs.Fill.{fill}
use Rattle.layout.specs.Pieces.{pieces_from}
use Rattle.layout.specs.Word.{object_heading, event_heading}
use Rattle.layout.proofs.FillLaws.{after-fits, after-short}
use Rattle.history.specs.declared.record.History.{History}
use Rattle.history.specs.Record.{no_object, no_event, objects_in, events_in}
use Rattle.history.specs.HistoryText.{lines_text, object_lines, event_lines, text_of, history_text}
use Rattle.history.specs.Readable.{within}
use Rattle.history.proofs.LinesLaws.{lines_none, lines_more, lines_append, Numbered, numbered_objects, numbered_events}
use Rattle.history.proofs.WithinLaws.{within-limits}
use Rattle.history_writer.specs.declared.write.WriteFault.TheVariants.{OutsideLimits, TooShort}
use Rattle.history_writer.specs.WriteHistory.{written_of, history_written, history_after}
use Rattle.history_writer.specs.Steps.Lines.{text_bytes}

-- ---- lines
-- the pieces are these lines
pieces_are : {A : Type 0} {text : ℕ → A → List ℕ} {lines : ℕ → List A → List (List ℕ)} → Numbered text lines → (xs : List A) (d : A) (k m : ℕ)
    → k + m ≡ length xs → pieces_from (λ i. text i (get_or xs i d) ++ 10 ∷ []) k m ≡ lines_text (lines k (drop k xs))
unfolding pieces_from
pieces_are {A} {text} {lines} t xs d k zero h =
    let none : drop k xs ≡ [] = drop_of_length-le xs (omega arith) in
    sym (ap (λ (l : List A). lines_text (lines k l)) none ∙ ap lines_text (t.none k) ∙ lines_none)
pieces_are {A} {text} {lines} t xs d k (suc m) h =
    let x : A = get_or xs k d in
    let rest : List A = drop (k + 1) xs in
    let first : drop k xs ≡ x ∷ rest = rw (add-one, drop-cons xs k d (omega arith)) refl in
    ap (λ (l : List ℕ). (text k x ++ 10 ∷ []) ++ l) (pieces_are t xs d (k + 1) m (omega arith))
    ∙ sym (ap (λ (l : List A). lines_text (lines k l)) first ∙ ap lines_text (t.more k x rest) ∙ lines_more (text k x) (lines (k + 1) rest))

-- ---- the text of a record
module _ (h : History) where
  text_is : history_text h ≡ text_bytes (objects_in h) (events_in h)
  unfolding history_text text_of
  text_is =
      lines_append (object_heading ∷ object_lines 0 (objects_in h)) (event_heading ∷ event_lines 0 (events_in h))
      ∙ ap₂ (λ (x y : List ℕ). x ++ y)
      (lines_more object_heading (object_lines 0 (objects_in h))
      ∙ ap (λ (t : List ℕ). (object_heading ++ 10 ∷ []) ++ t)
      (sym (pieces_are numbered_objects (objects_in h) no_object 0 (length (objects_in h)) (omega arith))))
      (lines_more event_heading (event_lines 0 (events_in h))
      ∙ ap (λ (t : List ℕ). (event_heading ++ 10 ∷ []) ++ t)
      (sym (pieces_are numbered_events (events_in h) no_event 0 (length (events_in h)) (omega arith))))

-- ---- a record within its limits
module _ (h : History) (w : within h ≡ true) where
  pub counts_few : (h.declared ≤ 16) × (h.count ≤ 64)
  counts_few = let l = within-limits h w in (l.declared, l.count)

  -- what is answered in a buffer that is too short, and in one that has room
  module _ (b : List ℕ) (n : ℕ) (long : n ≡ length (text_bytes (objects_in h) (events_in h))) where
    pub answer_short : length b < n → (written_of (Err TooShort) ≡ history_written h b) × (b ≡ history_after h b)
    unfolding history_written history_after
    answer_short k =
        let less : length b < length (history_text h) = omega (arith, ap length (text_is h)) in
        (rw (w, lt-leb (length (history_text h)) (length b) less), rw (w, after-short (history_text h) b less))

    pub answer_fits : n ≤ length b → (b₁ : List ℕ) → b₁ ≡ fill (text_bytes (objects_in h) (events_in h)) b
        → (written_of (Ok n) ≡ history_written h b) × (b₁ ≡ history_after h b)
    unfolding history_written history_after
    answer_fits k b₁ e =
        let room : length (history_text h) ≤ length b = omega (arith, ap length (text_is h)) in
        let same : n ≡ length (history_text h) = long ∙ ap length (sym (text_is h)) in
        let filled : b₁ ≡ fill (history_text h) b = e ∙ ap (λ (t : List ℕ). fill t b) (sym (text_is h)) in
        (rw (w, le-leb (length (history_text h)) (length b) room, same) refl, rw (w, after-fits (history_text h) b room) filled)

-- what is answered outside the limits
pub answer_refused : (h : History) (b : List ℕ) → within h ≡ false
    → (written_of (Err OutsideLimits) ≡ history_written h b) × (b ≡ history_after h b)
unfolding history_written history_after
answer_refused h b w = (rw w, rw w)
