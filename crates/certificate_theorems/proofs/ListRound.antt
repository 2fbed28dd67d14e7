-- A line of a number and a list of events reads as that list, and a line that reads as a list is that list's line; and so for
-- the first line and its criterion. Assumes nothing.
use Prim.Native.Nat.{ℕ}
use native.Mathlib.Omega.{arith}
use mathlib.Core.Path.{◌≡◌, refl, sym, ap, ap₂, ◌∙◌}
use mathlib.Core.Bool.{Bool, true, not, ◌&&◌, ◌||◌}
use mathlib.Core.List.{List, [], ◌∷◌, ◌++◌}
use lib.ListN.{length, get_or, length-map}
use lib.Dec.{eqb, leb}
use borrow.Author.Tests.{leb-true, eqb-true}
use Rattle.std.specs.Prelude.{Ok}
use Rattle.layout.specs.Split.{split, on_first, join}
use Rattle.layout.specs.Word.{same, criterion_word}
use Rattle.layout.specs.Number.{value, spell}
use Rattle.layout.specs.List.{items_of, all_numbers, all_below, judged, list_of, numbers_of}
use Rattle.layout.proofs.Cases.{by_bool, and_left, and_right}
use Rattle.layout.proofs.SplitLaws.{without, join-split}
use Rattle.layout.proofs.WordLaws.{same_true, same_refl}
use Rattle.layout.proofs.RoundTrips.{written_read}
use Rattle.history.specs.Readable.{all_less}
use Rattle.event_reader.proofs.EventRound.{values-less}
use Rattle.certificate.specs.declared.record.Criterion.{Criterion}
use Rattle.certificate.specs.declared.record.Criterion.TheVariants.{Pram, Weak, Causal, Converge, Sequential, Strict}
use Rattle.certificate.specs.Criteria.{word_of, is_criterion, criterion_of}
use Rattle.certificate.specs.Faults.{rising, criterion_line, list_layout, list_limits, pair_fault, list_fault, list_said}
use Rattle.certificate.specs.CertificateText.{list_line, criterion_text}
use Rattle.certificate.proofs.CriterionLaws.{word-criterion}
use Rattle.certificate.proofs.LineTextLaws.{good-fault}

-- ---- written and read back
-- the line of a good list has no fault
pub line-fault : (past : Bool) (count own : ℕ) (xs : List ℕ)
    → leb (length xs) count && all_less count xs && (not past || rising xs) ≡ true
    → list_fault past count own (list_line own xs) ≡ 0
line-fault past count own xs g =
    let b : Bool = leb (length xs) count && all_less count xs in
    let e = and_left b (not past || rising xs) g in
    good-fault past count own xs
    (record {
      few = leb-true (length xs) count (and_left (leb (length xs) count) (all_less count xs) e);
      small = and_right (leb (length xs) count) (all_less count xs) e;
      order = and_right b (not past || rising xs) g;
    })

-- ---- read and written back
two : (l : List (List ℕ)) → length l ≡ 2 → l ≡ get_or l 0 [] ∷ get_or l 1 [] ∷ []
two [] e = absurd (omega arith)
two (a ∷ []) e = absurd (omega arith)
two (a ∷ b ∷ []) e = refl
two (a ∷ b ∷ c ∷ l) e = absurd (omega arith)

-- a line of two fields is the first, a space and the second
two_fields : (line : List ℕ) → length (split 32 line) ≡ 2 → get_or (split 32 line) 0 [] ++ 32 ∷ get_or (split 32 line) 1 [] ≡ line
unfolding join
two_fields line n = sym (ap (join 32) (two (split 32 line) n)) ∙ join-split 32 line

-- what two fields without a fault are
record Pair (past : Bool) (count own : ℕ) (a s : List ℕ) : Type 0 where
  numbered : same a (spell own) ≡ true
  numbers : all_numbers (items_of s) ≡ true
  small : all_below count (items_of s) ≡ true
  few : leb (length (items_of s)) count ≡ true
  order : not past || rising (numbers_of s) ≡ true

pair-zero : (past : Bool) (count own : ℕ) (a s : List ℕ) → pair_fault past count own a s ≡ 0 → Pair past count own a s
unfolding pair_fault list_layout list_limits
pair-zero past count own a s z =
    let b₁ : Bool = same a (spell own) in
    let b₂ : Bool = all_below count (items_of s) in
    by_bool (b₁ && all_numbers (items_of s))
    (λ l. by_bool (b₂ && leb (length (items_of s)) count)
    (λ m. by_bool (not past || rising (numbers_of s))
    (λ r.
    record {
      numbered = and_left b₁ (all_numbers (items_of s)) l;
      numbers = and_right b₁ (all_numbers (items_of s)) l;
      small = and_left b₂ (leb (length (items_of s)) count) m;
      few = and_right b₂ (leb (length (items_of s)) count) m;
      order = r;
    })
    (λ r. let t : ◌≡◌ {A = ℕ} 6 0 = rw (l, m, r) at z in absurd (omega arith)))
    (λ m. let t : ◌≡◌ {A = ℕ} 3 0 = rw (l, m) at z in absurd (omega arith)))
    (λ l. let t : ◌≡◌ {A = ℕ} 2 0 = rw l at z in absurd (omega arith))

-- a line without a fault has two fields without a fault
record Fields (past : Bool) (count own : ℕ) (line : List ℕ) : Type 0 where
  cut : length (split 32 line) ≡ 2
  pair : Pair past count own (get_or (split 32 line) 0 []) (get_or (split 32 line) 1 [])

fields : (past : Bool) (count own : ℕ) (line : List ℕ) → list_fault past count own line ≡ 0 → Fields past count own line
unfolding list_fault
fields past count own line z =
    let fs : List (List ℕ) = split 32 line in
    by_bool (eqb (length fs) 2)
    (λ n.
    record { cut = eqb-true (length fs) 2 n; pair = pair-zero past count own (get_or fs 0 []) (get_or fs 1 []) (rw n at z) })
    (λ n. let t : ◌≡◌ {A = ℕ} 2 0 = rw n at z in absurd (omega arith))

module _ {past : Bool} {count own : ℕ} {a s : List ℕ} (p : Pair past count own a s) where
  pair-listed : list_of count count s ≡ Ok (length (items_of s))
  unfolding list_of judged
  pair-listed = rw (p.numbers, p.small, p.few)

  pair-back : list_line own (numbers_of s) ≡ a ++ 32 ∷ s
  unfolding list_line
  pair-back =
      rw (
        sym (same_true a (spell own) p.numbered),
        written_read count count (length (items_of s)) s pair-listed,
      )

  pair-few : leb (length (numbers_of s)) count ≡ true
  unfolding numbers_of
  pair-few = rw (length-map (items_of s) value) p.few

numbers-less : (bound : ℕ) (s : List ℕ) → all_below bound (items_of s) ≡ true → all_less bound (numbers_of s) ≡ true
unfolding numbers_of
numbers-less bound s e = values-less bound (items_of s) e

-- the line of the list that a line without a fault says is that line
pub line-back : (past : Bool) (count own : ℕ) (line : List ℕ) → list_fault past count own line ≡ 0
    → list_line own (list_said line) ≡ line
unfolding list_said
line-back past count own line z =
    let f = fields past count own line z in pair-back f.pair ∙ two_fields line f.cut

-- and that list is good
pub line-good : (past : Bool) (count own : ℕ) (line : List ℕ) → list_fault past count own line ≡ 0
    → leb (length (list_said line)) count && all_less count (list_said line) && (not past || rising (list_said line)) ≡ true
unfolding list_said
line-good past count own line z =
    let p = (fields past count own line z).pair in
    rw (pair-few p, numbers-less count (get_or (split 32 line) 1 []) p.small) p.order

-- ---- the first line
criterion-word : (c : Criterion) → criterion_of (word_of c) ≡ c
unfolding word_of criterion_of same
criterion-word Pram = refl
criterion-word Weak = refl
criterion-word Causal = refl
criterion-word Converge = refl
criterion-word Sequential = refl
criterion-word Strict = refl

criterion-known : (c : Criterion) → is_criterion (word_of c) ≡ true
unfolding word_of is_criterion same
criterion-known Pram = refl
criterion-known Weak = refl
criterion-known Causal = refl
criterion-known Converge = refl
criterion-known Sequential = refl
criterion-known Strict = refl

criterion-fields : (c : Criterion) → split 32 (criterion_text c) ≡ criterion_word ∷ word_of c ∷ []
unfolding criterion_text word_of split on_first
criterion-fields Pram = refl
criterion-fields Weak = refl
criterion-fields Causal = refl
criterion-fields Converge = refl
criterion-fields Sequential = refl
criterion-fields Strict = refl

-- it holds no line feed
pub criterion-without : (c : Criterion) → without 10 (criterion_text c) ≡ true
unfolding criterion_text word_of without
criterion-without Pram = refl
criterion-without Weak = refl
criterion-without Causal = refl
criterion-without Converge = refl
criterion-without Sequential = refl
criterion-without Strict = refl

-- as it is written it has its layout, and says its criterion
pub criterion-line : (c : Criterion) → criterion_line (criterion_text c) ≡ true
unfolding criterion_line
criterion-line c = rw (criterion-fields c, same_refl criterion_word) (criterion-known c)

pub criterion-said : (c : Criterion) → criterion_of (get_or (split 32 (criterion_text c)) 1 []) ≡ c
criterion-said c = rw (criterion-fields c) (criterion-word c)

-- as it is read its criterion writes it again
pub criterion-back : (line : List ℕ) → criterion_line line ≡ true
    → criterion_text (criterion_of (get_or (split 32 line) 1 [])) ≡ line
unfolding criterion_line criterion_text
criterion-back line e =
    let fs : List (List ℕ) = split 32 line in
    let b₁ : Bool = eqb (length fs) 2 in
    let b₂ : Bool = same (get_or fs 0 []) criterion_word in
    let l = and_left (b₁ && b₂) (is_criterion (get_or fs 1 [])) e in
    let k : word_of (criterion_of (get_or fs 1 [])) ≡ get_or fs 1 [] =
    word-criterion (get_or fs 1 []) (and_right (b₁ && b₂) (is_criterion (get_or fs 1 [])) e) in
    let c : criterion_word ≡ get_or fs 0 [] = sym (same_true (get_or fs 0 []) criterion_word (and_right b₁ b₂ l)) in
    ap₂ {C = List ℕ} (λ (x y : List ℕ). x ++ 32 ∷ y) c k ∙ two_fields line (eqb-true (length fs) 2 (and_left b₁ b₂ l))
