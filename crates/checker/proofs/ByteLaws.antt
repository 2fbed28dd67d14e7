-- A certificate text is a text of bytes: each of its numbers is below 256. Assumes nothing.
use Prim.Native.Nat.{ℕ, ◌<◌}
use native.Mathlib.Omega.{arith}
use mathlib.Core.Path.{◌≡◌, refl}
use mathlib.Core.Bool.{Bool, true, false, cond}
use mathlib.Core.List.{List, [], ◌∷◌, ◌++◌, map}
use lib.ListN.{length}
use lib.Dec.{leb, ltb}
use borrow.Author.Tests.{leb-true, lt-ltb}
use Rattle.layout.specs.Split.{join}
use Rattle.layout.specs.Number.{is_digit, all_digits, starts_well, is_number, spell}
use Rattle.layout.specs.List.{list_text}
use Rattle.layout.proofs.Cases.{and_left, and_right}
use Rattle.layout.proofs.SpellLaws.{number-spell}
use Rattle.history.specs.HistoryText.{lines_text}
use Rattle.history.specs.Readable.{all_less}
use Rattle.certificate.specs.declared.record.Criterion.{Criterion}
use Rattle.certificate.specs.declared.record.Criterion.TheVariants.{Pram, Weak, Causal, Converge, Sequential, Strict}
use Rattle.certificate.specs.Criteria.{word_of, has_pasts, count_from}
use Rattle.certificate.specs.CertificateText.{list_line, list_lines, criterion_text, view_part, past_part, text_of}
use Rattle.checker.specs.Demand3.{Bytes}

none-bytes : Bytes []
unfolding Bytes all_less
none-bytes = refl

more_bytes : (x : ℕ) (l : List ℕ) → x < 256 → Bytes l → Bytes (x ∷ l)
unfolding Bytes all_less
more_bytes x l h b = rw (lt-ltb x 256 h) b

append-bytes : (l m : List ℕ) → Bytes l → Bytes m → Bytes (l ++ m)
unfolding Bytes all_less
append-bytes [] m a b = b
append-bytes (x ∷ l) m a b =
    rw (and_left (ltb x 256) (all_less 256 l) a) (append-bytes l m (and_right (ltb x 256) (all_less 256 l) a) b)

-- digits, and so the spelling of a number
digit-below : (x : ℕ) → is_digit x ≡ true → x < 256
unfolding is_digit
digit-below x d = let h = leb-true x 57 (and_right (leb 48 x) (leb x 57) d) in omega arith

digits-bytes : (l : List ℕ) → all_digits l ≡ true → Bytes l
unfolding all_digits
digits-bytes [] d = none-bytes
digits-bytes (x ∷ l) d =
    more_bytes x l (digit-below x (and_left (is_digit x) (all_digits l) d)) (digits-bytes l (and_right (is_digit x) (all_digits l) d))

spell-bytes : (n : ℕ) → Bytes (spell n)
unfolding is_number
spell-bytes n = digits-bytes (spell n) (and_right (starts_well (spell n)) (all_digits (spell n)) (number-spell n))

-- lists and lines
items-bytes : (x : ℕ) (xs : List ℕ) → Bytes (join 44 (map spell (x ∷ xs)))
unfolding join
items-bytes x [] = spell-bytes x
items-bytes x (y ∷ xs) =
    append-bytes (spell x) (44 ∷ join 44 (map spell (y ∷ xs))) (spell-bytes x)
    (more_bytes 44 (join 44 (map spell (y ∷ xs))) (omega arith) (items-bytes y xs))

list-bytes : (xs : List ℕ) → Bytes (list_text xs)
unfolding list_text
list-bytes [] = more_bytes 45 [] (omega arith) none-bytes
list-bytes (x ∷ xs) = items-bytes x xs

AllBytes : List (List ℕ) → Type 0
AllBytes [] = Unit {0}
AllBytes (l ∷ ls) = Bytes l × AllBytes ls

lines-bytes : (ls : List (List ℕ)) → AllBytes ls → Bytes (lines_text ls)
unfolding lines_text AllBytes
lines-bytes [] b = none-bytes
lines-bytes (l ∷ ls) b = append-bytes l (10 ∷ lines_text ls) b.0 (more_bytes 10 (lines_text ls) (omega arith) (lines-bytes ls b.1))

both_bytes : (ls ms : List (List ℕ)) → AllBytes ls → AllBytes ms → AllBytes (ls ++ ms)
unfolding AllBytes
both_bytes [] ms a b = b
both_bytes (l ∷ ls) ms a b = (a.0, both_bytes ls ms a.1 b)

list-lines-bytes : (ns : List ℕ) (ls : List (List ℕ)) → AllBytes (list_lines ns ls)
unfolding list_lines list_line AllBytes
list-lines-bytes [] ls = tt
list-lines-bytes (n ∷ ns) [] = tt
list-lines-bytes (n ∷ ns) (l ∷ ls) =
    (append-bytes (spell n) (32 ∷ list_text l) (spell-bytes n) (more_bytes 32 (list_text l) (omega arith) (list-bytes l)), list-lines-bytes ns ls)

word_bytes : (c : Criterion) → Bytes (criterion_text c)
unfolding Bytes all_less criterion_text word_of
word_bytes Pram = refl
word_bytes Weak = refl
word_bytes Causal = refl
word_bytes Converge = refl
word_bytes Sequential = refl
word_bytes Strict = refl

view-bytes : (numbers : List ℕ) (views : List (List ℕ)) → AllBytes (view_part numbers views)
unfolding view_part Bytes all_less AllBytes
view-bytes numbers views = (refl, list-lines-bytes numbers views)

past_bytes : (pasts : List (List ℕ)) → AllBytes (past_part pasts)
unfolding past_part Bytes all_less AllBytes
past_bytes pasts = (refl, list-lines-bytes (count_from 0 (length pasts)) pasts)

by_cond : (b : Bool) (ls ms : List (List ℕ)) → AllBytes ls → AllBytes ms → AllBytes (cond b ls ms)
by_cond true ls ms p q = p
by_cond false ls ms p q = q

-- every certificate text of lists is a text of bytes
pub text-bytes : (c : Criterion) (numbers : List ℕ) (pasts views : List (List ℕ)) → Bytes (text_of c numbers pasts views)
unfolding text_of AllBytes
text-bytes c numbers pasts views =
    lines-bytes (criterion_text c ∷ cond (has_pasts c) (past_part pasts ++ view_part numbers views) (view_part numbers views)) (
      word_bytes c,
      by_cond (has_pasts c) (past_part pasts ++ view_part numbers views) (view_part numbers views)
          (both_bytes (past_part pasts) (view_part numbers views) (past_bytes pasts) (view-bytes numbers views))
          (view-bytes numbers views),
    )
