-- The fields of the line of an object and of an event, as they are written. Assumes nothing.
use Prim.Native.Nat.{ℕ}
use mathlib.Core.Path.{◌≡◌, refl, ap, ◌∙◌}
use mathlib.Core.Bool.{Bool, true, false, cond}
use mathlib.Core.List.{List, [], ◌∷◌, ◌++◌, map}
use Rattle.std.proofs.lemmas.List.{map-id}
use Rattle.layout.specs.Word.{dash, question}
use Rattle.layout.specs.List.{list_text}
use Rattle.layout.specs.Number.{spell}
use Rattle.layout.specs.Fields.{pieces_text}
use Rattle.layout.proofs.LineLaws.{pieces-join}
use Rattle.history_writer.specs.declared.line.Field.{Field}
use Rattle.history_writer.specs.declared.line.Field.TheVariants.{Dash, Number, Kind, Op, Answer}
use Rattle.history.specs.declared.record.Answer as record_answer
use Rattle.history.specs.Record.{values_in}
use Rattle.history.specs.declared.record.Object.{Object}
use Rattle.history.specs.declared.record.Event.{Event}
use Rattle.history.specs.Kinds.{kind_word, op_word, has_width, takes_value}
use Rattle.history.specs.HistoryText.{answer_text, object_text, event_text}
use Rattle.history_writer.specs.Steps.Lines.{field_text}

choose : (t : Bool) (n : ℕ) → field_text (cond t (Number n) Dash) ≡ cond t (spell n) dash
unfolding field_text
choose true n = refl
choose false n = refl

-- the fields of a line are its text and its line feed
pub object_line : (own : ℕ) (o : Object) (w : Field) → w ≡ cond (has_width o.kind) (Number o.width) Dash
    → pieces_text (map field_text (Number own ∷ Kind o.kind ∷ w ∷ [])) ≡ object_text own o ++ 10 ∷ []
unfolding object_text field_text
object_line own o w e =
    ap (λ (t : List ℕ). pieces_text (spell own ∷ kind_word o.kind ∷ t ∷ [])) (ap field_text e ∙ choose (has_width o.kind) o.width)
    ∙ pieces-join (spell own) (kind_word o.kind ∷ cond (has_width o.kind) (spell o.width) dash ∷ [])

pub event_line : (own : ℕ) (e : Event) (v : Field) → v ≡ cond (takes_value e.op) (Number e.value) Dash
    → pieces_text (map field_text (Number own ∷ Number e.process.0 ∷ Number e.object ∷ Op e.op ∷ v ∷ Answer e.answer ∷ []))
    ≡ event_text own e ++ 10 ∷ []
unfolding event_text field_text
event_line own e v q =
    ap (λ (t : List ℕ). pieces_text (spell own ∷ spell e.process.0 ∷ spell e.object ∷ op_word e.op ∷ t ∷ answer_text e.answer ∷ []))
    (ap field_text q ∙ choose (takes_value e.op) e.value)
    ∙ pieces-join (spell own)
    (spell e.process.0 ∷ spell e.object ∷ op_word e.op ∷ cond (takes_value e.op) (spell e.value) dash ∷ answer_text e.answer ∷ [])

-- ---- an answer
pub lost_is : (a : record_answer.Answer) → a.lost ≡ true → answer_text a ≡ question
unfolding answer_text
lost_is a e = rw e

pub told_is : (a : record_answer.Answer) (xs : List ℕ) → a.lost ≡ false → xs ≡ values_in a → list_text (map (λ (v : ℕ). v) xs) ≡ answer_text a
unfolding answer_text
told_is a xs l e = rw l (ap list_text (map-id xs ∙ e))
