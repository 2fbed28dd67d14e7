-- Laws of the line of an event: how many objects and events are read, and where the line lies. Assumes nothing.
use Prim.Native.Nat.{ℕ, zero, suc, ◌+◌, ◌-◌, ◌≤◌}
use native.Mathlib.Omega.{arith}
use mathlib.Core.Path.{◌≡◌, ap, ◌∙◌}
use mathlib.Core.List.{List, []}
use lib.ListN.{length, get_or, take, drop, length-drop, length-take}
use lib.Seq.{length-take-le}
use borrow.Author.Tests.{lt-ltb, le-ltb}
use Rattle.layout.specs.Split.{find, split, part_start}
use Rattle.layout.proofs.Cases.{by-lt}
use Rattle.layout.proofs.FillLaws.{tail-part}
use Rattle.layout.proofs.SplitLaws.{find-le, part-here, part-begins}
use Rattle.history.specs.Record.{history_of}
use Rattle.history_reader.specs.Place.{HistoryText, Place, event_place}
use Rattle.history_reader.specs.ReadHistory.{HistoryRead, read_history}
use Rattle.history_reader.proofs.EachReading.{each-reading}

-- ---- at most 16 objects and 64 events are read
record Few (r : HistoryRead) : Type 0 where
  objects : r.history.declared ≤ 16
  events : r.history.count ≤ 64

few-history : (text : List ℕ) → Few (read_history text)
unfolding history_of
few-history text =
    each-reading Few (length text) (λ os es h k. record { objects = h; events = k })
    (λ fault line at size f l h. record { objects = omega arith; events = omega arith })
    text
    (omega arith)

pub few-declared : (text : List ℕ) → (read_history text).history.declared ≤ 16
few-declared text = (few-history text).objects

pub few-counted : (text : List ℕ) → (read_history text).history.count ≤ 64
few-counted text = (few-history text).events

-- ---- the line of an event
-- the line from a place on goes up to its line feed, or to the end of the text
pub line-ends : (text p : List ℕ) (a : ℕ) → a ≤ length text → p ≡ take (find 10 (take (length text - a) (drop a text))) (take (length text - a) (drop a text))
    → (a + length p ≡ a + find 10 (drop a text)) × (a + length p ≤ length text)
line-ends text p a h e =
    let t = tail-part text a in
    let n : length p ≡ find 10 (drop a text) = ap length (rw t at e) ∙ length-take-le (find 10 (drop a text)) (drop a text) (find-le 10 (drop a text)) in
    (omega (arith, n), omega (arith, n, find-le 10 (drop a text), length-drop a text))

-- the line that begins at a place and goes up to its line feed
pub line-places : (text : List ℕ) (declared e a b : ℕ) → a ≡ part_start 10 (declared + 2 + e) text → a ≤ length text → b ≡ a + find 10 (drop a text)
    → b ≤ length text → get_or (split 10 text) (declared + 2 + e) [] ≡ get_or (split 10 (drop a text)) 0 []
    → ◌≡◌ {A = Place} (record { text = HistoryText; line = e + declared + 3; start = a; end = b }) (event_place text declared e)
line-places text declared e a b from ha to hb first =
    let k = declared + 2 + e in
    let l : length (get_or (split 10 text) k []) ≡ b - a =
    ap length (first ∙ part-here 10 text a b to ha) ∙ length-take-le (b - a) (drop a text) (omega (arith, length-drop a text)) in
    let m : b ≡ part_start 10 k text + length (get_or (split 10 text) k []) = omega arith in
    ap (λ (y : ℕ). record { text = HistoryText; line = e + declared + 3; start = y; end = b }) from
    ∙ ap (λ (y : ℕ). record { text = HistoryText; line = e + declared + 3; start = part_start 10 k text; end = y }) m

-- it lies within the text
start-within : (k : ℕ) (s : List ℕ) → part_start 10 k s ≤ length s
unfolding part_start
start-within zero s = omega arith
start-within (suc k) s =
    by-lt (find 10 s) (length s)
    (λ h. rw (lt-ltb (find 10 s) (length s) h) (omega (arith, start-within k (drop (find 10 s + 1) s), length-drop (find 10 s + 1) s)))
    (λ h. rw (le-ltb (find 10 s) (length s) h) (omega arith))

pub event-within : (text : List ℕ) (declared e : ℕ) → (event_place text declared e).end ≤ length text
event-within text declared e =
    omega (
      arith,
      ap length (part-begins 10 (declared + 2 + e) text),
      length-take (length (get_or (split 10 text) (declared + 2 + e) [])) (drop (part_start 10 (declared + 2 + e) text) text),
      length-drop (part_start 10 (declared + 2 + e) text) text,
      start-within (declared + 2 + e) text,
    )
