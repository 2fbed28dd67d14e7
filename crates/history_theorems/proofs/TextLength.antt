-- The text of good objects and events is at most 16,384 bytes long. Assumes nothing.
use Prim.Native.Nat.{ℕ, suc, ◌+◌, ◌*◌, ◌≤◌, ◌<◌}
use native.Mathlib.Omega.{arith}
use mathlib.Core.Path.{◌≡◌, refl}
use mathlib.Core.Bool.{true, cond}
use mathlib.Core.List.{List, [], ◌∷◌, ◌++◌, map}
use lib.ListN.{length, length-append, length-take}
use lib.Dec.{leb, ltb}
use borrow.Author.Tests.{ltb-true, leb-true}
use Rattle.layout.specs.Split.{join}
use Rattle.layout.specs.Word.{dash, object_heading, event_heading}
use Rattle.layout.specs.Number.{spell}
use Rattle.layout.specs.List.{list_text}
use Rattle.layout.proofs.Cases.{by_bool, and_left, and_right}
use Rattle.layout.proofs.SplitLaws.{join_one, join_more}
use Rattle.layout.proofs.SpellLaws.{spell-short}
use Rattle.history.specs.declared.record.Kind.{Kind}
use Rattle.history.specs.declared.record.Kind.TheVariants.{Register, Queue, Stack, Window, Channel}
use Rattle.history.specs.declared.record.Op.{Op}
use Rattle.history.specs.declared.record.Op.TheVariants.{Write, Read, Push, Pop, Peek}
use Rattle.history.specs.declared.record.Object.{Object}
use Rattle.history.specs.declared.record.Answer.{Answer}
use Rattle.history.specs.declared.record.Event.{Event}
use Rattle.history.specs.Record.{value_bound, values_in}
use Rattle.history.specs.Kinds.{kind_word, op_word, is_channel, has_width, width_limit, takes_value}
use Rattle.history.specs.HistoryText.{lines_text, answer_text, object_text, event_text, object_lines, event_lines, text_of}
use Rattle.history.proofs.Guarantees.{SoundEvent, sound-event}
use Rattle.history.specs.Readable.{good_object, good_objects, all_less, good_value, good_event, good_events}

-- ---- the line of an object
kind-short : (k : Kind) → length (kind_word k) ≤ 8
unfolding kind_word
kind-short Register = omega arith
kind-short Queue = omega arith
kind-short Stack = omega arith
kind-short Window = omega arith
kind-short Channel = omega arith

limit-short : (k : Kind) → width_limit k ≤ 64
limit-short k = by_bool (is_channel k) (λ c. rw c (omega arith)) (λ c. rw c (omega arith))

width-short : (o : Object) → good_object o ≡ true → length (cond (has_width o.kind) (spell o.width) dash) ≤ 2
unfolding good_object
width-short o g =
    let m : ℕ = width_limit o.kind in
    by_bool (has_width o.kind)
    (λ w. rw w (spell-short 1 o.width
    (let h = leb-true o.width m (and_right (ltb 0 o.width) (leb o.width m) (rw w at g)) in omega (arith, limit-short o.kind))))
    (λ w. rw w (omega arith))

object-short : (own : ℕ) (o : Object) → own < 16 → good_object o ≡ true → length (object_text own o) ≤ 14
unfolding object_text
object-short own o h g =
    let a : List ℕ = spell own in
    let k : List ℕ = kind_word o.kind in
    let w : List ℕ = cond (has_width o.kind) (spell o.width) dash in
    let la : length a ≤ 2 = spell-short 1 own (omega arith) in
    let lk : length k ≤ 8 = kind-short o.kind in
    let lw : length w ≤ 2 = width-short o g in
    omega (arith, join_more 32 a k (w ∷ []), join_more 32 k w [], join_one 32 w)

-- ---- the line of an event
op-short : (op : Op) → length (op_word op) ≤ 5
unfolding op_word
op-short Write = omega arith
op-short Read = omega arith
op-short Push = omega arith
op-short Pop = omega arith
op-short Peek = omega arith

value-short : (op : Op) (v : ℕ) → good_value op v ≡ true → length (cond (takes_value op) (spell v) dash) ≤ 5
unfolding good_value
value-short op v g =
    by_bool (takes_value op)
    (λ t. rw t (spell-short 4 v (let h = ltb-true v value_bound (rw t at g) in omega arith)))
    (λ t. rw t (omega arith))

items-short : (xs : List ℕ) → all_less value_bound xs ≡ true → length (join 44 (map spell xs)) ≤ length xs * 6
unfolding join all_less
items-short [] e = omega arith
items-short (x ∷ []) e =
    let h = ltb-true x value_bound (and_left (ltb x value_bound) true e) in
    omega (arith, spell-short 4 x (omega arith))
items-short (x ∷ y ∷ xs) e =
    let h = ltb-true x value_bound (and_left (ltb x value_bound) (all_less value_bound (y ∷ xs)) e) in
    let l = spell-short 4 x (omega arith) in
    let ih = items-short (y ∷ xs) (and_right (ltb x value_bound) (all_less value_bound (y ∷ xs)) e) in
    omega (arith, length-append (spell x) (44 ∷ join 44 (map spell (y ∷ xs))))

list-short : (xs : List ℕ) → all_less value_bound xs ≡ true → length xs ≤ 8 → length (list_text xs) ≤ 48
unfolding list_text
list-short [] e h = omega arith
list-short (x ∷ xs) e h = omega (arith, items-short (x ∷ xs) e)

answer-short : (os : List Object) (e : Event) → SoundEvent os e → length (answer_text e.answer) ≤ 48
unfolding answer_text
answer-short os e s =
    let a : Answer = e.answer in
    let n : length (values_in a) ≤ 8 = omega (arith, s.few, length-take a.count a.values) in
    by_bool a.lost (λ l. rw l (omega arith)) (λ l. rw l (list-short (values_in a) s.values n))

event-short : (own : ℕ) (os : List Object) (e : Event) → own < 64 → length os ≤ 16 → good_event os e ≡ true
    → length (event_text own e) ≤ 68
unfolding event_text
event-short own os e h n g =
    let sound = sound-event os e g in
    let a : List ℕ = spell own in
    let p : List ℕ = spell e.process.0 in
    let o : List ℕ = spell e.object in
    let w : List ℕ = op_word e.op in
    let v : List ℕ = cond (takes_value e.op) (spell e.value) dash in
    let s : List ℕ = answer_text e.answer in
    let la : length a ≤ 2 = spell-short 1 own (omega arith) in
    let lp : length p ≤ 1 = spell-short 0 e.process.0 (omega (arith, sound.process)) in
    let lo : length o ≤ 2 = spell-short 1 e.object (omega (arith, sound.declared, n)) in
    let lw : length w ≤ 5 = op-short e.op in
    let lv : length v ≤ 5 = value-short e.op e.value sound.value in
    let ls : length s ≤ 48 = answer-short os e sound in
    omega (
      arith,
      join_more 32 a p (o ∷ w ∷ v ∷ s ∷ []),
      join_more 32 p o (w ∷ v ∷ s ∷ []),
      join_more 32 o w (v ∷ s ∷ []),
      join_more 32 w v (s ∷ []),
      join_more 32 v s [],
      join_one 32 s,
    )

-- ---- lines, each with its line feed
pub line-more : (l : List ℕ) (ls : List (List ℕ)) → length (lines_text (l ∷ ls)) ≡ length l + suc (length (lines_text ls))
unfolding lines_text
line-more l ls = length-append l (10 ∷ lines_text ls)

pub line-none : length (lines_text []) ≡ 0
unfolding lines_text
line-none = refl

pub lines-append : (ls ms : List (List ℕ)) → length (lines_text (ls ++ ms)) ≡ length (lines_text ls) + length (lines_text ms)
lines-append [] ms = omega (arith, line-none)
lines-append (l ∷ ls) ms =
    let ih = lines-append ls ms in
    omega (arith, line-more l (ls ++ ms), line-more l ls)

objects-short : (own : ℕ) (os : List Object) → own + length os ≤ 16 → good_objects os ≡ true
    → length (lines_text (object_lines own os)) ≤ length os * 15
unfolding object_lines good_objects
objects-short own [] h g = omega (arith, line-none)
objects-short own (o ∷ os) h g =
    let l = object-short own o (omega arith) (and_left (good_object o) (good_objects os) g) in
    let ih = objects-short (own + 1) os (omega arith) (and_right (good_object o) (good_objects os) g) in
    omega (arith, line-more (object_text own o) (object_lines (own + 1) os))

events-short : (own : ℕ) (os : List Object) (es : List Event) → own + length es ≤ 64 → length os ≤ 16 → good_events os es ≡ true
    → length (lines_text (event_lines own es)) ≤ length es * 69
unfolding event_lines good_events
events-short own os [] h n g = omega (arith, line-none)
events-short own os (e ∷ es) h n g =
    let l = event-short own os e (omega arith) n (and_left (good_event os e) (good_events os es) g) in
    let ih = events-short (own + 1) os es (omega arith) n (and_right (good_event os e) (good_events os es) g) in
    omega (arith, line-more (event_text own e) (event_lines (own + 1) es))

pub text-short : (os : List Object) (es : List Event) → length os ≤ 16 → length es ≤ 64 → good_objects os ≡ true
    → good_events os es ≡ true → length (text_of os es) ≤ 16384
unfolding text_of
text-short os es h k g f =
    let ls : List (List ℕ) = object_lines 0 os in
    let ms : List (List ℕ) = event_lines 0 es in
    let a = objects-short 0 os (omega arith) g in
    let b = events-short 0 os es (omega arith) h f in
    omega (arith, lines-append (object_heading ∷ ls) (event_heading ∷ ms), line-more object_heading ls, line-more event_heading ms)
