-- The line of an event, as part of its history text, is the text of that event. Assumes nothing.
use Prim.Native.Nat.{ℕ, zero, suc, ◌+◌, ◌-◌, ◌<◌}
use native.Mathlib.Omega.{arith}
use mathlib.Core.Path.{◌≡◌, sym, ap, ap₂, ◌∙◌}
use mathlib.Core.List.{List, [], ◌∷◌, ◌++◌}
use lib.ListN.{length, get_or, take, drop, get_or-append}
use lib.Seq.{get_or-append-add}
use Rattle.layout.specs.Split.{split, part_start}
use Rattle.layout.specs.Word.{object_heading, event_heading}
use Rattle.layout.proofs.SplitLaws.{part-begins}
use Rattle.history.specs.declared.record.Object.{Object}
use Rattle.history.specs.declared.record.Event.{Event}
use Rattle.history.specs.Record.{no_event, objects_in, events_in}
use Rattle.history.specs.HistoryText.{event_text, object_lines, event_lines, text_of, history_text}
use Rattle.history.proofs.LinesLaws.{numbered_objects, numbered_events, numbered-long}
use Rattle.history.proofs.WithinLaws.{within-limits}
use Rattle.history_reader.specs.ReadHistory.{read_history}
use Rattle.history_reader.specs.Place.{event_place, bytes_at}
use Rattle.history_theorems.proofs.TextRound.{text-parts}
use Rattle.history_theorems.proofs.Theorems.{read-within, read-written}

-- ---- the lines of the text of objects and events
event-line-at : (own : ℕ) (es : List Event) (k : ℕ) → k < length es
    → get_or (event_lines own es) k [] ≡ event_text (own + k) (get_or es k no_event)
unfolding event_lines
event-line-at own [] k h = absurd (omega arith)
event-line-at own (e ∷ es) zero h = let z : own ≡ own + 0 = omega arith in ap (λ (n : ℕ). event_text n e) z
event-line-at own (e ∷ es) (suc k) h =
    let z : own + 1 + k ≡ own + suc k = omega arith in
    event-line-at (own + 1) es k (omega arith) ∙ ap (λ (n : ℕ). event_text n (get_or es k no_event)) z

-- the line of an event follows two headings and the objects' lines
line_at : (os : List Object) (es : List Event) (k : ℕ) → k < length es
    → get_or (split 10 (text_of os es)) (length os + 2 + k) [] ≡ event_text k (get_or es k no_event)
line_at os es k h =
    let p : List (List ℕ) = object_heading ∷ object_lines 0 os in
    let q : List (List ℕ) = event_heading ∷ (event_lines 0 es ++ [] ∷ []) in
    let n : length os + 2 + k ≡ length p + suc k = omega (arith, numbered-long numbered_objects 0 os) in
    let l : k < length (event_lines 0 es) = omega (arith, numbered-long numbered_events 0 es) in
    let z : 0 + k ≡ k = omega arith in
    ap (λ (ls : List (List ℕ)). get_or ls (length os + 2 + k) []) (text-parts os es)
    ∙ ap (λ (i : ℕ). get_or (p ++ q) i []) n
    ∙ get_or-append-add p q (suc k) []
    ∙ get_or-append (event_lines 0 es) ([] ∷ []) [] k l
    ∙ event-line-at 0 es k h
    ∙ ap (λ (i : ℕ). event_text i (get_or es k no_event)) z

-- the part of line k is that line
part-is : (text : List ℕ) (k : ℕ)
    → take (part_start 10 k text + length (get_or (split 10 text) k []) - part_start 10 k text) (drop (part_start 10 k text) text) ≡ get_or (split 10 text) k []
part-is text k =
    let z : part_start 10 k text + length (get_or (split 10 text) k []) - part_start 10 k text ≡ length (get_or (split 10 text) k []) = omega arith in
    ap (λ (m : ℕ). take m (drop (part_start 10 k text) text)) z ∙ sym (part-begins 10 k text)

-- the line of an event of a history text that was read is the text of that event
pub event-line : (text : List ℕ) (e : ℕ) → (read_history text).fault ≡ 0 → e < (read_history text).history.count
    → bytes_at (event_place text (read_history text).history.declared e) text ≡ event_text e (get_or (events_in (read_history text).history) e no_event)
unfolding history_text
event-line text e z h =
    let l = within-limits (read_history text).history (read-within text z) in
    let n : length (events_in (read_history text).history) ≡ (read_history text).history.count = l.all in
    let s : text_of (objects_in (read_history text).history) (events_in (read_history text).history) ≡ text = read-written text z in
    part-is text ((read_history text).history.declared + 2 + e)
    ∙ ap₂ (λ (t : List ℕ) (k : ℕ). get_or (split 10 t) (k + 2 + e) []) (sym s) (sym l.few)
    ∙ line_at (objects_in (read_history text).history) (events_in (read_history text).history) e (omega arith)
