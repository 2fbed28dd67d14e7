-- Laws of the fields of a verdict as they are written. Assumes nothing.
use Prim.Native.Nat.{ℕ, zero, suc, ◌+◌, ◌-◌, ◌≤◌, ◌<◌}
use native.Mathlib.Omega.{arith}
use mathlib.Core.Path.{◌≡◌, refl, sym, ap, ap₂, ◌∙◌}
use mathlib.Core.List.{List, [], ◌∷◌, ◌++◌, map, append_assoc}
use mathlib.Core.Option.{Option, none, some}
use lib.ListN.{length, drop, replicate, length-append}
use Rattle.layout.specs.Number.{spell}
use Rattle.layout.specs.Fill.{fill}
use Rattle.layout.specs.Fields.{pieces_text}
use Rattle.layout.proofs.SpellLaws.{spell-short}
use Rattle.history.specs.Record.{pad}
use Rattle.certificate.specs.declared.record.Criterion.{Criterion}
use Rattle.certificate.specs.declared.record.Criterion.TheVariants.{Pram, Weak, Causal, Converge, Sequential, Strict}
use Rattle.certificate.specs.Criteria.{word_of}
use Rattle.history_reader.specs.Place.{Text, Neither, HistoryText, CertificateText, line_of}
use Rattle.checker.specs.CheckText.{Verdict}
use Rattle.verdict_lines.specs.declared.line.Field.{Field}
use Rattle.verdict_lines.specs.declared.line.Field.TheVariants.{Number}
use Rattle.verdict_lines.specs.declared.print.Printed.{Printed}
use Rattle.verdict_lines.specs.Printed.{text_word, criterion_word, number_word, names, values, printed, printed_in}
use Rattle.verdict_lines.specs.Steps.{field_text, number_field, criterion_field, text_field, fields_of}

-- ---- no field is longer than eleven bytes
pub number_short : (n : ℕ) → n < 4294967296 → length (spell n) ≤ 11
number_short n h = omega (arith, spell-short 9 n (omega arith))

pub criterion_short : (c : Criterion) → length (word_of c) ≤ 11
unfolding word_of
criterion_short Pram = omega arith
criterion_short Weak = omega arith
criterion_short Causal = omega arith
criterion_short Converge = omega arith
criterion_short Sequential = omega arith
criterion_short Strict = omega arith

one-long : (f g : List ℕ) (fs : List (List ℕ)) → length f ≤ 11 → length (pieces_text (f ∷ g ∷ fs)) ≤ 12 + length (pieces_text (g ∷ fs))
unfolding pieces_text
one-long f g fs h = omega (arith, length-append f (32 ∷ pieces_text (g ∷ fs)))

last-long : (f : List ℕ) → length f ≤ 11 → length (pieces_text (f ∷ [])) ≤ 12
unfolding pieces_text
last-long f h = omega (arith, length-append f (10 ∷ []))

pub six-long : (a b c d e f : List ℕ) → length a ≤ 11 → length b ≤ 11 → length c ≤ 11 → length d ≤ 11 → length e ≤ 11 → length f ≤ 11
    → length (pieces_text (a ∷ b ∷ c ∷ d ∷ e ∷ f ∷ [])) ≤ 90
six-long a b c d e f la lb lc ld le lf =
    omega (
      arith,
      one-long a b (c ∷ d ∷ e ∷ f ∷ []) la,
      one-long b c (d ∷ e ∷ f ∷ []) lb,
      one-long c d (e ∷ f ∷ []) lc,
      one-long d e (f ∷ []) ld,
      one-long e f [] le,
      last-long f lf,
    )

-- ---- the fields of a verdict are its line of values
number_is : (o : Option ℕ) → field_text (number_field o) ≡ number_word o
number_is none = refl
number_is (some n) = refl

criterion-is : (o : Option Criterion) → field_text (criterion_field o) ≡ criterion_word o
criterion-is none = refl
criterion-is (some c) = refl

text_is : (t : Text) → field_text (text_field t) ≡ text_word t
text_is Neither = refl
text_is HistoryText = refl
text_is CertificateText = refl

six-are : (a b c d e f : List ℕ)
    → pieces_text (a ∷ b ∷ c ∷ d ∷ e ∷ f ∷ []) ≡ a ++ 32 ∷ b ++ 32 ∷ c ++ 32 ∷ d ++ 32 ∷ e ++ 32 ∷ f ++ 10 ∷ []
unfolding pieces_text
six-are a b c d e f =
    let s : List ℕ = a ++ 32 ∷ b in
    let t : List ℕ = s ++ 32 ∷ c in
    let u : List ℕ = t ++ 32 ∷ d in
    let end : List ℕ = 32 ∷ (f ++ 10 ∷ []) in
    sym
    (append_assoc (u ++ 32 ∷ e) (32 ∷ f) (10 ∷ [])
    ∙ append_assoc u (32 ∷ e) end
    ∙ append_assoc t (32 ∷ d) (32 ∷ (e ++ end))
    ∙ append_assoc s (32 ∷ c) (32 ∷ (d ++ 32 ∷ (e ++ end)))
    ∙ append_assoc a (32 ∷ b) (32 ∷ (c ++ 32 ∷ (d ++ 32 ∷ (e ++ end)))))

pub fields-are : (v : Verdict) → pieces_text (map field_text (fields_of v)) ≡ values v
unfolding fields_of values
fields-are v =
    rw (criterion-is v.criterion, text_is v.place.text, number_is (line_of v.place), number_is v.view, number_is v.event)
    (six-are (spell v.number) (criterion_word v.criterion) (text_word v.place.text) (number_word (line_of v.place)) (number_word v.view)
    (number_word v.event))

pub printed-is : (v : Verdict) (fields : List Field) → fields ≡ fields_of v → printed v ≡ names ++ pieces_text (map field_text fields)
unfolding printed
printed-is v fields e = ap (λ (l : List ℕ). names ++ l) (sym (ap (λ (l : List Field). pieces_text (map field_text l)) e ∙ fields-are v))

-- ---- the fields that the code makes are those of the verdict, and they are short
pub six_fields : (v : Verdict) (number criterion text line view event : Field)
    → number ≡ Number v.number → criterion ≡ criterion_field v.criterion → text ≡ text_field v.place.text
    → line ≡ number_field (line_of v.place) → view ≡ number_field v.view → event ≡ number_field v.event
    → length (field_text number) ≤ 11 → length (field_text criterion) ≤ 11 → length (field_text text) ≤ 11
    → length (field_text line) ≤ 11 → length (field_text view) ≤ 11 → length (field_text event) ≤ 11
    → (number ∷ criterion ∷ text ∷ line ∷ view ∷ event ∷ [] ≡ fields_of v)
    × (length (pieces_text (map field_text (number ∷ criterion ∷ text ∷ line ∷ view ∷ event ∷ []))) ≤ 90)
unfolding fields_of
six_fields v number criterion text line view event n c t l w e ln lc lt ll lw le = (
  rw (n, c, t, l, w, e) refl,
  six-long (field_text number) (field_text criterion) (field_text text) (field_text line) (field_text view) (field_text event) ln lc lt ll lw le,
)

-- ---- the lines in an array of zeros
drop-zeros : (n k : ℕ) → drop {A = ℕ} n (replicate k 0) ≡ replicate (k - n) 0
drop-zeros zero k = let z : k ≡ k - 0 = omega arith in ap (λ (m : ℕ). replicate {A = ℕ} m 0) z
drop-zeros (suc n) zero = let z : 0 ≡ 0 - suc n = omega arith in ap (λ (m : ℕ). replicate {A = ℕ} m 0) z
drop-zeros (suc n) (suc k) = let z : k - n ≡ suc k - suc n = omega arith in drop-zeros n k ∙ ap (λ (m : ℕ). replicate {A = ℕ} m 0) z

fill-zeros : (t : List ℕ) → fill t (replicate 128 0) ≡ pad 128 0 t
unfolding fill pad
fill-zeros t = ap (λ (l : List ℕ). t ++ l) (drop-zeros (length t) 128)

pub printed-whole : (v : Verdict) (n : ℕ) (bytes : List ℕ) → n ≡ length (printed v) → bytes ≡ fill (printed v) (replicate 128 0)
    → ◌≡◌ {A = Printed} (record { length = n; bytes = bytes }) (printed_in v)
printed-whole v n bytes q e =
    ap₂ {C = Printed} (λ (k : ℕ) (l : List ℕ). record { length = k; bytes = l }) q (e ∙ fill-zeros (printed v))

-- the lines lie within the array
pub printed_fits : (v : Verdict) (r : Printed) → r ≡ printed_in v → r.length ≤ length r.bytes
unfolding pad
printed_fits v r q = rw q (omega (arith, length-append (printed v) (replicate (128 - length (printed v)) 0)))
