-- Laws of the quick way to read an event's line. Assumes nothing.
use Prim.Native.Nat.{ℕ, ◌+◌, ◌<◌}
use native.Mathlib.Omega.{arith}
use mathlib.Core.Path.{◌≡◌, sym, ap, ap₂, ◌∙◌}
use mathlib.Core.Bool.{true, false, cond}
use mathlib.Core.List.{List, [], ◌∷◌, ◌++◌, append_assoc}
use lib.ListN.{length, get_or, take, drop, set}
use lib.Dec.{eqb}
use lib.Pointwise.{pointwise}
use borrow.Author.Tests.{lt-ltb}
use Rattle.std.specs.Prelude.{Some}
use Rattle.std.proofs.Common.{Bor}
use Rattle.std.proofs.lemmas.Bool.Decides.{Decides-eqb}
use Rattle.std.proofs.lemmas.Slice.Eq.{strip_prefix_is}
use Rattle.layout.specs.Split.{join}
use Rattle.layout.specs.Word.{dash}
use Rattle.layout.specs.Number.{spell}
use Rattle.layout.specs.List.{list_text}
use Rattle.history.specs.declared.record.Op.{Op}
use Rattle.history.specs.declared.record.Object.{Object}
use Rattle.history.specs.declared.record.Answer.{Answer}
use Rattle.history.specs.Record.{value_bound, no_object, no_answer, lost_answer, answer_of}
use Rattle.history.specs.Kinds.{op_word, has_op, takes_value, can_answer, may_answer}
use Rattle.history.specs.HistoryText.{answer_text, event_text}
use Rattle.history.specs.Readable.{all_less, all_zero, good_answer, good_value, good_event}
use Rattle.history.proofs.ListedLaws.{Listed, listed-small, listed-filled, listed-count, listed-ends}
use Rattle.event_reader.specs.Steps.Next.{AnswerFirst, EventFirst}
use Rattle.event_reader.proofs.EventRound.{made-good, made-lost}

-- a field and its space before other fields
field-first : (f g : List ℕ) (fs : List (List ℕ)) {text rest : List ℕ} (behind : List ℕ) → text ≡ f ++ 32 ∷ rest → rest ≡ join 32 (g ∷ fs) ++ behind
    → text ≡ join 32 (f ∷ g ∷ fs) ++ behind
unfolding join
field-first f g fs behind p q =
    p ∙ ap (λ (l : List ℕ). f ++ 32 ∷ l) q ∙ sym (append_assoc f (32 ∷ join 32 (g ∷ fs)) behind)

-- the last field
field-last : (f : List ℕ) {text : List ℕ} (behind : List ℕ) → text ≡ f ++ behind → text ≡ join 32 (f ∷ []) ++ behind
unfolding join
field-last f behind p = p

-- the last of some values, with a line feed behind it
pub values-end : {k : ℕ} {text xs rest : List ℕ} → Listed 8 value_bound text xs k rest → k < 8 → (v : ℕ) (behind after : List ℕ) → rest ≡ spell v ++ behind
    → v < value_bound → behind ≡ 10 ∷ after → AnswerFirst text (record { lost = false; count = k + 1; values = set xs k v }) after
unfolding answer_of answer_text
values-end {k} {text} {xs} {rest} r room v behind after number below c =
    let ys : List ℕ = take (k + 1) (set xs k v) in
    let n : length ys ≡ k + 1 = listed-count r room v behind number below in
    let told : ◌≡◌ {A = Answer} (record { lost = false; count = k + 1; values = set xs k v }) (answer_of ys) =
    ap₂ {C = Answer} (λ (j : ℕ) (vs : List ℕ). record { lost = false; count = j; values = vs }) (sym n) (listed-filled r room v behind number below).pads in
    record {
      good = λ object op can.
          ap (good_answer object op) told
          ∙ made-good object op ys (omega arith) (ap (can_answer object op) n ∙ can) (listed-small r room v behind number below);
      spelt = listed-ends r room v behind number below ∙ ap (λ (l : List ℕ). list_text ys ++ l) c;
    }

-- a text that begins with the two bytes of an answer and its line feed, as `strip_prefix` tells it
abbrev Begins : (text word rest : List ℕ) → Type 0
Begins text word rest =
    (pointwise eqb (take (length word) text) word ≡ true) × (rest ≡ drop (length word) text) × (length rest + length word ≡ length text)

-- `-` and a line feed
pub none_first : (text : List ℕ) (rest : Bor (List ℕ)) (a : Answer) → a ≡ no_answer → Begins text (45 ∷ 10 ∷ []) rest.now → AnswerFirst text a rest.now
unfolding answer_text list_text good_answer all_less all_zero
none_first text rest a q m = record {
  good = λ object op can. ap (good_answer object op) q ∙ rw (sym (ap (may_answer object op) q) ∙ can);
  spelt = rw q (strip_prefix_is Decides-eqb text (45 ∷ 10 ∷ []) (Some rest) m);
}

-- `?` and a line feed
pub lost_first : (text : List ℕ) (rest : Bor (List ℕ)) (a : Answer) → a ≡ lost_answer → Begins text (63 ∷ 10 ∷ []) rest.now → AnswerFirst text a rest.now
unfolding answer_text
lost_first text rest a q m = record {
  good = λ object op can. ap (good_answer object op) q ∙ made-lost object op;
  spelt = rw q (strip_prefix_is Decides-eqb text (63 ∷ 10 ∷ []) (Some rest) m);
}

-- an event of fields that are in order is good
made-event : (os : List Object) (process object : ℕ) (op : Op) (value : ℕ) (a : Answer) → process < 8 → object < length os
    → has_op (get_or os object no_object).kind op ≡ true → good_value op value ≡ true
    → good_answer (get_or os object no_object) op a ≡ true
    → good_event os (record { process = record { 0 = process }; object = object; op = op; value = value; answer = a }) ≡ true
unfolding good_event
made-event os process object op value a p o has given good =
    rw (lt-ltb process 8 p, lt-ltb object (length os) o, has, given) good

-- six fields that are in order, one behind the other
pub fields_first : (own : ℕ) (os : List Object) (number process object : ℕ) (op : Op) (value : ℕ) (a : Answer)
    {text r₁ r₂ r₃ r₄ r₅ rest : List ℕ} → number ≡ own → (text ≡ spell number ++ 32 ∷ r₁) × (number < 64)
    → (r₁ ≡ spell process ++ 32 ∷ r₂) × (process < 8) → (r₂ ≡ spell object ++ 32 ∷ r₃) × (object < length os)
    → has_op (get_or os object no_object).kind op ≡ true → r₃ ≡ op_word op ++ 32 ∷ r₄
    → (good_value op value ≡ true) × (r₄ ≡ cond (takes_value op) (spell value) dash ++ 32 ∷ r₅)
    → AnswerFirst r₅ a rest → may_answer (get_or os object no_object) op a ≡ true
    → EventFirst own os text (record { process = record { 0 = process }; object = object; op = op; value = value; answer = a }) rest
unfolding event_text
fields_first own os number process object op value a same f₁ f₂ f₃ has f₄ f₅ f₆ can =
    record {
      numbered = omega (arith, f₁.1);
      good = made-event os process object op value a f₂.1 f₃.1 has f₅.0 (f₆.good (get_or os object no_object) op can);
      spelt =
          field-first _ _ _ _ (rw same at f₁.0)
          (field-first _ _ _ _ f₂.0 (field-first _ _ _ _ f₃.0 (field-first _ _ _ _ f₄ (field-first _ _ _ _ f₅.1 (field-last _ _ f₆.spelt)))));
    }
