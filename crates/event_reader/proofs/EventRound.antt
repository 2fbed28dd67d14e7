-- An event's line reads as its event, and a line that reads as an event is that event's line. Assumes nothing.
use Prim.Native.Nat.{ℕ, ◌-◌, ◌≤◌, ◌<◌}
use native.Mathlib.Omega.{arith}
use mathlib.Core.Path.{◌≡◌, refl, sym, ap, ◌∙◌}
use mathlib.Core.Bool.{Bool, true, false, cond, not, ◌&&◌, ◌||◌, false≢true}
use mathlib.Core.List.{List, [], ◌∷◌, map}
use lib.ListN.{length, get_or, drop, replicate, length-drop, length-map, take-append-drop}
use lib.Seq.{length-take-le}
use lib.Dec.{eqb, leb, ltb}
use borrow.Author.Tests.{ne_eqb, lt-ltb, ltb-true, le-leb, leb-true, eq-eqb, eqb-true, not-true}
use Rattle.std.proofs.Common.{Ok}
use Rattle.layout.specs.Split.{split, join}
use Rattle.layout.specs.Word.{same, dash, question, write_word, read_word, push_word, pop_word, peek_word}
use Rattle.layout.specs.Number.{is_digit, value, spell}
use Rattle.layout.specs.List.{items_of, all_numbers, all_below, judged, list_of, numbers_of, list_text}
use Rattle.layout.proofs.Cases.{by_bool, by-eq, and_left, and_right}
use Rattle.layout.proofs.SplitLaws.{without, all_without, split-join, join-split, join-without}
use Rattle.layout.proofs.WordLaws.{same_true, same_refl}
use Rattle.layout.proofs.NumberLaws.{digit_low}
use Rattle.layout.proofs.SpellLaws.{number-spell, value-spell, spell-value, spell-without}
use Rattle.layout.proofs.ListTextLaws.{list-without}
use Rattle.layout.proofs.RoundTrips.{items-text, spells-numbers, numbers-written, written_read}
use Rattle.history.proofs.WithinLaws.{zero_is, zeros, drop-pad}
use Rattle.history.specs.declared.record.Op.{Op}
use Rattle.history.specs.declared.record.Op.TheVariants.{Write, Read, Push, Pop, Peek}
use Rattle.history.specs.declared.record.Object.{Object}
use Rattle.history.specs.declared.record.Answer.{Answer}
use Rattle.history.specs.declared.record.Event.{Event}
use Rattle.history.specs.Record.{value_bound, pad, no_object, lost_answer, answer_of, values_in}
use Rattle.history.specs.Kinds.{op_word, is_op, op_of, has_op, takes_value, can_answer, may_answer}
use Rattle.history.specs.Faults.{EventRead, optional, is_lost, answer_items, answer_said, event_layout, event_limits, event_fits, event_long, object_named, event_fault, event_said, event_six, event_line}
use Rattle.history.specs.HistoryText.{answer_text, event_text}
use Rattle.history.specs.Readable.{all_less, all_zero, good_answer, good_value, good_event}
use Rattle.history.proofs.Guarantees.{GoodEvent, event-good}
use Rattle.history.proofs.PadLaws.{pad-length, take-pad}
use Rattle.history.proofs.FaultLaws.{InOrder, fault-none, fault-zero}
use Rattle.history.proofs.EventLaws.{with-faulty, with-event, Laid, laid, Limited, limited, event-count, event-six}
use Rattle.event_reader.proofs.LineRound.{spell-not-dash, option-without, option-layout, option-fits, option-value, option-says}

-- ---- the words of the ops
op-word : (x : Op) → op_of (op_word x) ≡ x
unfolding op_word op_of same
op-word Write = refl
op-word Read = refl
op-word Push = refl
op-word Pop = refl
op-word Peek = refl

op-known : (x : Op) → is_op (op_word x) ≡ true
unfolding op_word is_op same
op-known Write = refl
op-known Read = refl
op-known Push = refl
op-known Pop = refl
op-known Peek = refl

-- they hold no space and no line feed
op-without : (x : Op) → (without 32 (op_word x) ≡ true) × (without 10 (op_word x) ≡ true)
unfolding op_word without
op-without Write = (refl, refl)
op-without Read = (refl, refl)
op-without Push = (refl, refl)
op-without Pop = (refl, refl)
op-without Peek = (refl, refl)

word-op : (f : List ℕ) → is_op f ≡ true → op_word (op_of f) ≡ f
unfolding is_op op_of op_word
word-op f e =
    by_bool (same f read_word)
    (λ r. rw r (sym (same_true f read_word r)))
    (λ r. by_bool (same f push_word)
    (λ u. rw (r, u) (sym (same_true f push_word u)))
    (λ u. by_bool (same f pop_word)
    (λ o. rw (r, u, o) (sym (same_true f pop_word o)))
    (λ o. by_bool (same f peek_word)
    (λ k. rw (r, u, o, k) (sym (same_true f peek_word k)))
    (λ k. rw (r, u, o, k) (sym (same_true f write_word (rw (r, u, o, k) at e)))))))

-- ---- the fields of an event's line
abbrev fields_of : ℕ → Event → List (List ℕ)
fields_of own e =
    spell own ∷ spell e.process.0 ∷ spell e.object ∷ op_word e.op
    ∷ cond (takes_value e.op) (spell e.value) dash
    ∷ answer_text e.answer ∷ []

question-without : (b : ℕ) → (b ≡ 63 → ⊥) → without b question ≡ true
unfolding without
question-without b h = rw (ne_eqb 63 b (λ q. h (sym q)))

question-holds : without 63 question ≡ true → ⊥
unfolding without
question-holds e = false≢true e

answer-without : (b : ℕ) → is_digit b ≡ false → (b ≡ 44 → ⊥) → (b ≡ 45 → ⊥) → (b ≡ 63 → ⊥) → (a : Answer) → without b (answer_text a) ≡ true
unfolding answer_text
answer-without b d c m q a =
    by_bool a.lost (λ l. rw l (question-without b q)) (λ l. rw l (list-without b d c m (values_in a)))

fields-without : (b : ℕ) → is_digit b ≡ false → (b ≡ 44 → ⊥) → (b ≡ 45 → ⊥) → (b ≡ 63 → ⊥) → (own : ℕ) (e : Event) → without b (op_word e.op) ≡ true
    → all_without b (fields_of own e) ≡ true
unfolding all_without
fields-without b d c m q own e w =
    rw (
      spell-without b own d,
      spell-without b e.process.0 d,
      spell-without b e.object d,
      w,
      option-without b d m (takes_value e.op) e.value,
      answer-without b d c m q e.answer,
    )

text-fields : (own : ℕ) (e : Event) → split 32 (event_text own e) ≡ fields_of own e
unfolding event_text
text-fields own e =
    split-join 32 (spell own) _
    (fields-without 32 (digit_low 32 (omega arith)) (λ q. omega arith) (λ q. omega arith) (λ q. omega arith) own e (op-without e.op).0)

-- the line holds no line feed
pub event-clean : (own : ℕ) (e : Event) → without 10 (event_text own e) ≡ true
unfolding event_text
event-clean own e =
    join-without 10 32 (λ q. omega arith) (fields_of own e)
    (fields-without 10 (digit_low 10 (omega arith)) (λ q. omega arith) (λ q. omega arith) (λ q. omega arith) own e (op-without e.op).1)

-- ---- the places of an answer
-- a list is not `?`
list-not-question : (xs : List ℕ) → same (list_text xs) question ≡ false
unfolding is_digit
list-not-question xs =
    by_bool (same (list_text xs) question)
    (λ q. absurd (question-holds (ap (without 63) (sym (same_true (list_text xs) question q))
    ∙ list-without 63 refl (λ k. omega arith) (λ k. omega arith) xs)))
    (λ q. q)

answer-parts : (l : Bool) (c : ℕ) (vs : List ℕ) (a : Answer) → l ≡ a.lost → c ≡ a.count → vs ≡ a.values
    → ◌≡◌ {A = Answer} (record { lost = l; count = c; values = vs }) a
answer-parts l c vs a p q r = rw (p, q, r)

module _ {os : List Object} {e : Event} (g : GoodEvent os e) where
  abbrev a : Answer
  a = e.answer

  answer-count : length (values_in a) ≡ a.count
  answer-count = length-take-le a.count a.values (omega arith)

  -- its places are those of its values
  answer-places : pad 8 0 (values_in a) ≡ a.values
  unfolding pad
  answer-places =
      let n : length (drop a.count a.values) ≡ 8 - a.count = omega (arith, length-drop a.count a.values) in
      let r : replicate (8 - a.count) 0 ≡ drop a.count a.values =
      sym (zero_is (drop a.count a.values) g.rest ∙ ap (λ (k : ℕ). replicate k 0) n) in
      rw (answer-count, r, take-append-drop a.count a.values)

  -- one that was lost has no value
  lost-none : a.lost ≡ true → a.count ≡ 0
  lost-none l = eqb-true a.count 0 (rw l at g.sound.answer)

  lost-values : a.lost ≡ true → values_in a ≡ []
  lost-values l = rw (lost-none l)

  -- as it is written: its items, and what they say
  answer-items : answer_items (answer_text a) ≡ map spell (values_in a)
  unfolding answer_items answer_text is_lost
  answer-items =
      by_bool a.lost
      (λ l. rw (l, same_refl question, lost-values l))
      (λ l. rw (l, list-not-question (values_in a)) (items-text (values_in a)))

  said-by : (b : Bool) → b ≡ a.lost → answer_said (cond b question (list_text (values_in a))) ≡ a
  unfolding answer_said answer_of is_lost pad
  said-by true l =
      rw (same_refl question)
      (answer-parts true 0 (replicate 8 0) a l (sym (lost-none (sym l))) (ap (pad 8 0) (sym (lost-values (sym l))) ∙ answer-places))
  said-by false l =
      rw (list-not-question (values_in a), numbers-written (values_in a))
      (answer-parts false (length (values_in a)) (pad 8 0 (values_in a)) a l answer-count answer-places)

  answer-said : answer_said (answer_text a) ≡ a
  unfolding answer_text
  answer-said = said-by a.lost refl

  answer-can : leb (length (answer_items (answer_text a))) 8 && may_answer (get_or os e.object no_object) e.op (answer_said (answer_text a)) ≡ true
  answer-can =
      rw (answer-items, length-map (values_in a) spell, answer-count, le-leb a.count 8 g.sound.few, answer-said) g.sound.answer

-- the answer of a few small values is good
pub made-good : (object : Object) (op : Op) (xs : List ℕ) → length xs ≤ 8 → can_answer object op (length xs) ≡ true
    → all_less value_bound xs ≡ true → good_answer object op (answer_of xs) ≡ true
unfolding good_answer answer_of
made-good object op xs h c s =
    rw (le-leb (length xs) 8 h, c, take-pad 8 0 xs, s, pad-length 8 0 xs h, drop-pad 8 0 xs) (zeros (8 - length xs))

pub made-lost : (object : Object) (op : Op) → good_answer object op lost_answer ≡ true
unfolding good_answer all_less all_zero
made-lost object op = refl

-- ---- the values of an answer, as they are spelt
spells-below : (bound : ℕ) (xs : List ℕ) → all_less bound xs ≡ true → all_below bound (map spell xs) ≡ true
unfolding all_below all_less
spells-below bound [] e = refl
spells-below bound (x ∷ xs) e =
    rw (value-spell x, and_left (ltb x bound) (all_less bound xs) e)
    (spells-below bound xs (and_right (ltb x bound) (all_less bound xs) e))

pub values-less : (bound : ℕ) (ps : List (List ℕ)) → all_below bound ps ≡ true → all_less bound (map value ps) ≡ true
unfolding all_below all_less
values-less bound [] e = refl
values-less bound (p ∷ ps) e =
    rw (and_left (ltb (value p) bound) (all_below bound ps) e)
    (values-less bound ps (and_right (ltb (value p) bound) (all_below bound ps) e))

-- ---- the value of an event
given-limits : (t : Bool) (n : ℕ) → cond t (ltb n value_bound) (eqb n 0) ≡ true
    → same (cond t (spell n) dash) dash || ltb (value (cond t (spell n) dash)) value_bound ≡ true
given-limits true n g = rw (spell-not-dash n, value-spell n) g
given-limits false n g = rw (same_refl dash)

given-value : (t : Bool) (n : ℕ) → cond t (ltb n value_bound) (eqb n 0) ≡ true → optional (cond t (spell n) dash) ≡ n
given-value true n g = option-value true n
given-value false n g = option-value false n ∙ sym (eqb-true n 0 g)

given-good : (t : Bool) (v : List ℕ) → same v dash || ltb (value v) value_bound ≡ true
    → cond t (not (same v dash)) (same v dash) ≡ true → cond t (ltb (optional v) value_bound) (eqb (optional v) 0) ≡ true
unfolding optional
given-good true v l f = let d = not-true (same v dash) f in rw d (rw d at l)
given-good false v l f = rw f

-- ---- written and read back
module _ (own : ℕ) (os : List Object) (e : Event) (h : own < 64) (g : GoodEvent os e) where
  abbrev p_text : List ℕ
  p_text = spell e.process.0

  abbrev o_text : List ℕ
  o_text = spell e.object

  abbrev w_text : List ℕ
  w_text = op_word e.op

  abbrev v_text : List ℕ
  v_text = cond (takes_value e.op) (spell e.value) dash

  abbrev s_text : List ℕ
  s_text = answer_text e.answer

  layout-text : event_layout own (spell own) p_text o_text w_text v_text s_text ≡ true
  unfolding event_layout
  layout-text =
      rw (
        same_refl (spell own),
        number-spell e.process.0,
        number-spell e.object,
        op-known e.op,
        option-layout (takes_value e.op) e.value,
        answer-items g,
      )
      (spells-numbers (values_in e.answer))

  limits-text : event_limits own (length os) p_text o_text v_text s_text ≡ true
  unfolding event_limits good_value
  limits-text =
      rw (
        lt-ltb own 64 h,
        value-spell e.process.0,
        lt-ltb e.process.0 8 g.sound.process,
        value-spell e.object,
        lt-ltb e.object (length os) g.sound.declared,
        given-limits (takes_value e.op) e.value g.sound.value,
        answer-items g,
      )
      (spells-below value_bound (values_in e.answer) g.sound.values)

  fits-text : event_fits (object_named os o_text) w_text v_text ≡ true
  unfolding event_fits
  fits-text = rw (value-spell e.object, op-word e.op, g.sound.op) (option-fits (takes_value e.op) e.value)

  long-text : event_long (object_named os o_text) w_text s_text ≡ true
  unfolding event_long
  long-text = rw (value-spell e.object, op-word e.op) (answer-can g)

  fault-text : event_fault own os (spell own) p_text o_text w_text v_text s_text ≡ 0
  unfolding event_fault
  fault-text = fault-zero (record { layout = layout-text; limits = limits-text; fits = fits-text; long = long-text })

  said-text : event_said p_text o_text w_text v_text s_text ≡ e
  unfolding event_said good_value
  said-text =
      rw (
        value-spell e.process.0,
        value-spell e.object,
        op-word e.op,
        given-value (takes_value e.op) e.value g.sound.value,
        answer-said g,
      )

  six-text : event_six own os (spell own) p_text o_text w_text v_text s_text ≡ record { fault = 0; event = e }
  unfolding event_six
  six-text =
      with-event _ (event_said p_text o_text w_text v_text s_text) fault-text
      ∙ ap (λ (x : Event). record { fault = 0; event = x }) said-text

-- the line of a good event reads as that event
pub event-written : (own : ℕ) (os : List Object) (e : Event) → own < 64 → good_event os e ≡ true
    → event_line own os (event_text own e) ≡ record { fault = 0; event = e }
event-written own os e h g =
    event-six own os (event_text own e) (fields_of own e) (text-fields own e) refl ∙ six-text own os e h (event-good os e g)

-- ---- read and written back
six : (l : List (List ℕ)) → length l ≡ 6
    → l ≡ get_or l 0 [] ∷ get_or l 1 [] ∷ get_or l 2 [] ∷ get_or l 3 [] ∷ get_or l 4 [] ∷ get_or l 5 [] ∷ []
six [] n = absurd (omega arith)
six (a ∷ []) n = absurd (omega arith)
six (a ∷ b ∷ []) n = absurd (omega arith)
six (a ∷ b ∷ c ∷ []) n = absurd (omega arith)
six (a ∷ b ∷ c ∷ d ∷ []) n = absurd (omega arith)
six (a ∷ b ∷ c ∷ d ∷ e ∷ []) n = absurd (omega arith)
six (a ∷ b ∷ c ∷ d ∷ e ∷ f ∷ []) n = refl
six (a ∷ b ∷ c ∷ d ∷ e ∷ f ∷ g ∷ l) n = absurd (omega arith)

-- six fields without a fault
module _ (own : ℕ) (os : List Object) (a p o w v s : List ℕ)
    (i : InOrder (event_layout own a p o w v s) (event_limits own (length os) p o v s) (event_fits (object_named os o) w v)
    (event_long (object_named os o) w s)) where
  fields_laid : Laid own a p o w v s
  fields_laid = laid own a p o w v s i.layout

  fields-limited : Limited own (length os) p o v s
  fields-limited = limited own (length os) p o v s i.limits

  read-numbered : own < 64
  read-numbered = ltb-true own 64 fields-limited.numbered

  read_has : has_op (object_named os o).kind (op_of w) ≡ true
  unfolding event_fits
  read_has = and_left (has_op (object_named os o).kind (op_of w)) _ i.fits

  read-given : cond (takes_value (op_of w)) (not (same v dash)) (same v dash) ≡ true
  unfolding event_fits
  read-given = and_right (has_op (object_named os o).kind (op_of w)) _ i.fits

  read-eight : leb (length (answer_items s)) 8 ≡ true
  unfolding event_long
  read-eight = and_left (leb (length (answer_items s)) 8) (may_answer (object_named os o) (op_of w) (answer_said s)) i.long

  read-may : may_answer (object_named os o) (op_of w) (answer_said s) ≡ true
  unfolding event_long
  read-may = and_right (leb (length (answer_items s)) 8) (may_answer (object_named os o) (op_of w) (answer_said s)) i.long

  -- an answer that was not lost
  module _ (kept : is_lost s ≡ false) where
    read-few : leb (length (items_of s)) 8 ≡ true
    unfolding answer_items
    read-few = rw kept at read-eight

    read-can : can_answer (object_named os o) (op_of w) (length (numbers_of s)) ≡ true
    unfolding answer_said answer_of
    read-can = rw kept at read-may

    read_count : length (numbers_of s) ≡ length (items_of s)
    unfolding numbers_of
    read_count = length-map (items_of s) value

    read-numbers : all_numbers (items_of s) ≡ true
    unfolding answer_items
    read-numbers = rw kept at fields_laid.answer

    read_below : all_below value_bound (items_of s) ≡ true
    unfolding answer_items
    read_below = rw kept at fields-limited.answer

    read_small : all_less value_bound (numbers_of s) ≡ true
    unfolding numbers_of
    read_small = values-less value_bound (items_of s) read_below

    read-listed : list_of value_bound 8 s ≡ Ok (length (items_of s))
    unfolding list_of judged
    read-listed = rw (read-numbers, read_below, read-few)

    kept-good : good_answer (object_named os o) (op_of w) (answer_of (numbers_of s)) ≡ true
    kept-good =
        made-good (object_named os o) (op_of w) (numbers_of s) (omega (arith, leb-true (length (items_of s)) 8 read-few, read_count))
        read-can read_small

  read_answer : good_answer (object_named os o) (op_of w) (answer_said s) ≡ true
  unfolding answer_said
  read_answer = by_bool (is_lost s) (λ l. rw l (made-lost (object_named os o) (op_of w))) (λ l. rw l (kept-good l))

  read-said : answer_text (answer_said s) ≡ s
  unfolding answer_text answer_said is_lost answer_of
  read-said =
      by_bool (is_lost s)
      (λ l. rw l (sym (same_true s question l)))
      (λ l. rw (l, take-pad 8 0 (numbers_of s)) (written_read value_bound 8 (length (items_of s)) s (read-listed l)))

  read-value : good_value (op_of w) (optional v) ≡ true
  unfolding good_value
  read-value = given-good (takes_value (op_of w)) v fields-limited.given read-given

  read-good : good_event os (event_said p o w v s) ≡ true
  unfolding good_event event_said
  read-good = rw (fields-limited.process, fields-limited.object, read_has, read-value) read_answer

  read-fields : fields_of own (event_said p o w v s) ≡ a ∷ p ∷ o ∷ w ∷ v ∷ s ∷ []
  unfolding event_said
  read-fields =
      rw (
        sym (same_true a (spell own) fields_laid.numbered),
        spell-value p fields_laid.process,
        spell-value o fields_laid.object,
        word-op w fields_laid.op,
        option-says (takes_value (op_of w)) v fields_laid.given read-given,
        read-said,
      )

-- a line without a fault has six fields without a fault, and says what they say
record Six (own : ℕ) (os : List Object) (line : List ℕ) : Type 0 where
  a : List ℕ
  p : List ℕ
  o : List ℕ
  w : List ℕ
  v : List ℕ
  s : List ℕ
  cut : split 32 line ≡ a ∷ p ∷ o ∷ w ∷ v ∷ s ∷ []
  order : InOrder (event_layout own a p o w v s) (event_limits own (length os) p o v s) (event_fits (object_named os o) w v)
      (event_long (object_named os o) w s)
  event : (event_line own os line).event ≡ event_said p o w v s

module _ (own : ℕ) (os : List Object) (a p o w v s : List ℕ) where
  six-said : event_fault own os a p o w v s ≡ 0 → (event_six own os a p o w v s).event ≡ event_said p o w v s
  unfolding event_six
  six-said z = rw (eq-eqb (event_fault own os a p o w v s) 0 z)

  six-faulty : (event_fault own os a p o w v s ≡ 0 → ⊥) → (event_six own os a p o w v s).fault ≡ event_fault own os a p o w v s
  unfolding event_six
  six-faulty n = ap (λ (r : EventRead). r.fault) (with-faulty (event_fault own os a p o w v s) (event_said p o w v s) n)

  six-zero : (event_six own os a p o w v s).fault ≡ 0 → event_fault own os a p o w v s ≡ 0
  six-zero e = by-eq (event_fault own os a p o w v s) 0 (λ z. z) (λ n. absurd (n (sym (six-faulty n) ∙ e)))

  six-order : event_fault own os a p o w v s ≡ 0
      → InOrder (event_layout own a p o w v s) (event_limits own (length os) p o v s) (event_fits (object_named os o) w v)
      (event_long (object_named os o) w s)
  unfolding event_fault
  six-order z = fault-none _ _ _ _ z

six-of : (own : ℕ) (os : List Object) (line : List ℕ) → (event_line own os line).fault ≡ 0 → Six own os line
six-of own os line e =
    let fs : List (List ℕ) = split 32 line in
    by-eq (length fs) 6
    (λ n.
    let a : List ℕ = get_or fs 0 [] in
    let p : List ℕ = get_or fs 1 [] in
    let o : List ℕ = get_or fs 2 [] in
    let w : List ℕ = get_or fs 3 [] in
    let v : List ℕ = get_or fs 4 [] in
    let s : List ℕ = get_or fs 5 [] in
    let q : event_line own os line ≡ event_six own os a p o w v s = event-six own os line fs refl n in
    let z : event_fault own os a p o w v s ≡ 0 = six-zero own os a p o w v s (sym (ap (λ (r : EventRead). r.fault) q) ∙ e) in
    record {
      a = a;
      p = p;
      o = o;
      w = w;
      v = v;
      s = s;
      cut = six fs n;
      order = six-order own os a p o w v s z;
      event = ap (λ (r : EventRead). r.event) q ∙ six-said own os a p o w v s z;
    })
    (λ n.
    let t : ◌≡◌ {A = ℕ} 2 0 = sym (ap (λ (r : EventRead). r.fault) (event-count own os line fs refl n)) ∙ e in
    absurd (omega arith))

-- what a line that reads as an event says
pub record ReadsEvent (own : ℕ) (os : List Object) (line : List ℕ) : Type 0 where
  pub numbered : own < 64
  pub good : good_event os (event_line own os line).event ≡ true
  pub says : event_text own (event_line own os line).event ≡ line

read-says : (own : ℕ) (os : List Object) (line : List ℕ) (t : Six own os line) → event_text own (event_line own os line).event ≡ line
unfolding event_text
read-says own os line t =
    ap (λ (e : Event). join 32 (fields_of own e)) t.event
    ∙ ap (join 32) (read-fields own os t.a t.p t.o t.w t.v t.s t.order ∙ sym t.cut)
    ∙ join-split 32 line

pub event-read : (own : ℕ) (os : List Object) (line : List ℕ) → (event_line own os line).fault ≡ 0 → ReadsEvent own os line
event-read own os line e =
    let t = six-of own os line e in
    record {
      numbered = read-numbered own os t.a t.p t.o t.w t.v t.s t.order;
      good = ap (good_event os) t.event ∙ read-good own os t.a t.p t.o t.w t.v t.s t.order;
      says = read-says own os line t;
    }
