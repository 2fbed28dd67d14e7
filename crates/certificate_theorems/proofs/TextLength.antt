-- The text of good pasts and views is at most 32,768 bytes long. Assumes nothing.
use Prim.Native.Nat.{ℕ, ◌+◌, ◌*◌, ◌≤◌, ◌<◌}
use native.Mathlib.Omega.{arith}
use mathlib.Core.Path.{◌≡◌}
use mathlib.Core.Bool.{Bool, true, false, cond, not, ◌&&◌, ◌||◌}
use mathlib.Core.List.{List, [], ◌∷◌, ◌++◌, map}
use lib.ListN.{length, length-append}
use lib.Dec.{leb, ltb}
use borrow.Author.Tests.{ltb-true, leb-true}
use Rattle.layout.specs.Split.{join}
use Rattle.layout.specs.Word.{criterion_word, past_heading, view_heading}
use Rattle.layout.specs.Number.{spell}
use Rattle.layout.specs.List.{list_text}
use Rattle.layout.proofs.Cases.{in-either, and_left, and_right}
use Rattle.layout.proofs.SpellLaws.{spell-short}
use Rattle.history.specs.declared.record.Event.{Event}
use Rattle.history.specs.HistoryText.{lines_text}
use Rattle.history.specs.Readable.{all_less}
use Rattle.history_theorems.proofs.TextLength.{line-more, line-none, lines-append}
use Rattle.certificate.specs.declared.record.Criterion.{Criterion}
use Rattle.certificate.specs.declared.record.Criterion.TheVariants.{Pram, Weak, Causal, Converge, Sequential, Strict}
use Rattle.certificate.specs.Criteria.{word_of, has_pasts, count_from, view_numbers, past_count}
use Rattle.certificate.specs.Faults.{rising}
use Rattle.certificate.specs.CertificateText.{list_line, list_lines, criterion_text, view_part, past_part, text_of}
use Rattle.certificate.specs.Readable.{good_lists}
use Rattle.certificate.proofs.FitsLaws.{count-below, numbers-below, pasts-few}
use Rattle.certificate.proofs.NumberingLaws.{numbers-few}

-- ---- a list of events, each below 64
items-short : (count : ℕ) (xs : List ℕ) → count ≤ 64 → all_less count xs ≡ true → length (join 44 (map spell xs)) ≤ length xs * 3
unfolding join all_less
items-short count [] h e = omega arith
items-short count (x ∷ []) h e =
    let k = ltb-true x count (and_left (ltb x count) true e) in
    omega (arith, spell-short 1 x (omega arith))
items-short count (x ∷ y ∷ xs) h e =
    let k = ltb-true x count (and_left (ltb x count) (all_less count (y ∷ xs)) e) in
    let l = spell-short 1 x (omega arith) in
    let ih = items-short count (y ∷ xs) h (and_right (ltb x count) (all_less count (y ∷ xs)) e) in
    omega (arith, length-append (spell x) (44 ∷ join 44 (map spell (y ∷ xs))))

list-short : (count : ℕ) (xs : List ℕ) → count ≤ 64 → all_less count xs ≡ true → length xs ≤ count → length (list_text xs) ≤ 192
unfolding list_text
list-short count [] h e k = omega arith
list-short count (x ∷ xs) h e k = omega (arith, items-short count (x ∷ xs) h e)

line-short : (count own : ℕ) (xs : List ℕ) → count ≤ 64 → own < 64 → all_less count xs ≡ true → length xs ≤ count
    → length (list_line own xs) ≤ 195
unfolding list_line
line-short count own xs h o e k =
    let a : length (spell own) ≤ 2 = spell-short 1 own (omega arith) in
    omega (arith, length-append (spell own) (32 ∷ list_text xs), list-short count xs h e k)

-- ---- lines, each with its line feed
lists-short : (past : Bool) (count : ℕ) (ns : List ℕ) (ls : List (List ℕ)) → count ≤ 64 → all_less 64 ns ≡ true
    → good_lists past count ls ≡ true → length (lines_text (list_lines ns ls)) ≤ length ls * 196
unfolding list_lines good_lists all_less
lists-short past count [] ls h e g = omega (arith, line-none)
lists-short past count (n ∷ ns) [] h e g = omega (arith, line-none)
lists-short past count (n ∷ ns) (l ∷ ls) h e g =
    let b₂ : Bool = leb (length l) count && all_less count l in
    let b₃ : Bool = b₂ && (not past || rising l) in
    let g₂ = and_left b₂ (not past || rising l) (and_left b₃ (good_lists past count ls) g) in
    let k = leb-true (length l) count (and_left (leb (length l) count) (all_less count l) g₂) in
    let o = ltb-true n 64 (and_left (ltb n 64) (all_less 64 ns) e) in
    let s = line-short count n l h o (and_right (leb (length l) count) (all_less count l) g₂) k in
    let ih = lists-short past count ns ls h (and_right (ltb n 64) (all_less 64 ns) e) (and_right b₃ (good_lists past count ls) g) in
    omega (arith, line-more (list_line n l) (list_lines ns ls))

-- ---- the parts of the text
word-short : (c : Criterion) → length (word_of c) ≤ 10
unfolding word_of
word-short Pram = omega arith
word-short Weak = omega arith
word-short Causal = omega arith
word-short Converge = omega arith
word-short Sequential = omega arith
word-short Strict = omega arith

criterion-short : (c : Criterion) → length (criterion_text c) ≤ 20
unfolding criterion_text
criterion-short c = omega (arith, length-append criterion_word (32 ∷ word_of c), word-short c)

views-short : (count : ℕ) (ns : List ℕ) (ls : List (List ℕ)) → count ≤ 64 → all_less 64 ns ≡ true
    → good_lists false count ls ≡ true → length (lines_text (view_part ns ls)) ≤ 11 + length ls * 196
unfolding view_part
views-short count ns ls h e g = omega (arith, line-more view_heading (list_lines ns ls), lists-short false count ns ls h e g)

pasts-short : (count : ℕ) (ls : List (List ℕ)) → count ≤ 64 → length ls ≤ 64
    → good_lists true count ls ≡ true → length (lines_text (past_part ls)) ≤ 11 + length ls * 196
unfolding past_part
pasts-short count ls h k g =
    omega (
      arith,
      line-more past_heading (list_lines (count_from 0 (length ls)) ls),
      lists-short true count (count_from 0 (length ls)) ls h (count-below 64 0 (length ls) (omega arith)) g,
    )

-- ---- the whole
pub text-short : (c : Criterion) (es : List Event) (pasts views : List (List ℕ)) → length es ≤ 64
    → length pasts ≡ past_count c es → length views ≡ length (view_numbers c es)
    → good_lists true (length es) pasts ≡ true → good_lists false (length es) views ≡ true
    → length (text_of c (view_numbers c es) pasts views) ≤ 32768
unfolding text_of
text-short c es pasts views h p q g f =
    let ls : List (List ℕ) = past_part pasts in
    let ms : List (List ℕ) = view_part (view_numbers c es) views in
    let k : length pasts ≤ 64 = omega (arith, pasts-few c es h) in
    let m : length views ≤ 64 = omega (arith, numbers-few c es h) in
    let a = pasts-short (length es) pasts h k g in
    let b = views-short (length es) (view_numbers c es) views h (numbers-below c es h) f in
    let both : length (lines_text (ls ++ ms)) ≤ 25110 = omega (arith, lines-append ls ms) in
    omega (
      arith,
      criterion-short c,
      line-more (criterion_text c) (cond (has_pasts c) (ls ++ ms) ms),
      in-either (λ (t : List (List ℕ)). length (lines_text t) ≤ 25110) (has_pasts c) (ls ++ ms) ms both (omega arith),
    )
