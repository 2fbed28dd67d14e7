-- Laws of the word of a criterion and of the first line of a certificate. Assumes nothing.
use Prim.Native.Nat.{ℕ, suc, ◌<◌}
use native.Mathlib.Omega.{arith}
use mathlib.Core.Path.{◌≡◌, refl, sym, ap, subst, ◌∙◌}
use mathlib.Core.Bool.{Bool, true, false, cond, ◌&&◌}
use mathlib.Core.List.{List, [], ◌∷◌, ◌++◌}
use lib.ListN.{length, get_or, drop}
use lib.Dec.{eqb}
use borrow.Author.Tests.{eqb-true, ne_eqb}
use Rattle.std.proofs.Common.{Option, Some, None}
use Rattle.layout.specs.Split.{find, on_first, split, join}
use Rattle.layout.specs.Word.{same, criterion_word, pram_word, weak_word, causal_word, converge_word, sequential_word, strict_word}
use Rattle.layout.proofs.Cases.{by_bool, by-lt, and_left, and_right}
use Rattle.layout.proofs.SplitLaws.{split-more, split-last, split-some, split-append, without, join-split}
use Rattle.layout.proofs.WordLaws.{same_true, same_refl}
use Rattle.certificate.specs.declared.record.Criterion.{Criterion}
use Rattle.certificate.specs.declared.record.Criterion.TheVariants.{Pram, Weak, Causal, Converge, Sequential, Strict}
use Rattle.certificate.specs.Criteria.{word_of, is_criterion, criterion_of}
use Rattle.certificate.specs.Faults.{criterion_line}

-- ---- a criterion's word is the word of the criterion that it names, and holds no space
pub word-criterion : (f : List ℕ) → is_criterion f ≡ true → word_of (criterion_of f) ≡ f
unfolding is_criterion criterion_of word_of
word-criterion f e =
    by_bool (same f weak_word)
    (λ w. rw w (sym (same_true f weak_word w)))
    (λ w. by_bool (same f causal_word)
    (λ c. rw (w, c) (sym (same_true f causal_word c)))
    (λ c. by_bool (same f converge_word)
    (λ v. rw (w, c, v) (sym (same_true f converge_word v)))
    (λ v. by_bool (same f sequential_word)
    (λ s. rw (w, c, v, s) (sym (same_true f sequential_word s)))
    (λ s. by_bool (same f strict_word)
    (λ t. rw (w, c, v, s, t) (sym (same_true f strict_word t)))
    (λ t. rw (w, c, v, s, t) (sym (same_true f pram_word (rw (w, c, v, s, t) at e))))))))

word-whole : (c : Criterion) → split 32 (word_of c) ≡ word_of c ∷ []
unfolding word_of split on_first
word-whole Pram = refl
word-whole Weak = refl
word-whole Causal = refl
word-whole Converge = refl
word-whole Sequential = refl
word-whole Strict = refl

word-one : (f : List ℕ) → is_criterion f ≡ true → split 32 f ≡ f ∷ []
word-one f e = subst (λ (w : List ℕ). split 32 w ≡ w ∷ []) (word-criterion f e) (word-whole (criterion_of f))

-- ---- the line, by whether it begins with the heading and a space
abbrev said : List ℕ → Option Criterion
said line = cond (criterion_line line) (Some (criterion_of (get_or (split 32 line) 1 []))) None

-- a line of two fields is these with a space between them
two-fields : (line : List ℕ) (ps : List (List ℕ)) → split 32 line ≡ ps → length ps ≡ 2 → line ≡ get_or ps 0 [] ++ 32 ∷ get_or ps 1 []
unfolding join
two-fields line [] cut h = absurd (omega arith)
two-fields line (p ∷ []) cut h = absurd (omega arith)
two-fields line (p ∷ q ∷ []) cut h = sym (join-split 32 line) ∙ ap (join 32) cut
two-fields line (p ∷ q ∷ r ∷ ps) cut h = absurd (omega arith)

pub line_other : (line : List ℕ) → ((rest : List ℕ) → line ≡ criterion_word ++ 32 ∷ rest → ⊥) → None ≡ said line
unfolding criterion_line
line_other line differs =
    by_bool (criterion_line line)
    (λ t.
    let two : Bool = eqb (length (split 32 line)) 2 in
    let heading : Bool = same (get_or (split 32 line) 0 []) criterion_word in
    let both = and_left (two && heading) (is_criterion (get_or (split 32 line) 1 [])) t in
    let first = same_true _ _ (and_right two heading both) in
    absurd (differs _ (rw first at (two-fields line _ refl (eqb-true (length (split 32 line)) 2 (and_left two heading both))))))
    (λ t. rw t)

module _ (line rest : List ℕ) (begins : line ≡ criterion_word ++ 32 ∷ rest) where
  cut : split 32 line ≡ criterion_word ∷ split 32 rest
  unfolding without
  cut = rw begins (split-append 32 criterion_word rest refl)

  pub line_word : cond (is_criterion rest) (Some (criterion_of rest)) None ≡ said line
  unfolding criterion_line
  line_word =
      by-lt (find 32 rest) (length rest)
      (λ h.
      let s = split-more 32 rest h in
      let two : 1 < length (split 32 rest) = rw s (omega (arith, split-some 32 (drop (suc (find 32 rest)) rest))) in
      let no : is_criterion rest ≡ false =
      by_bool (is_criterion rest) (λ t. absurd (omega (arith, two, ap length (word-one rest t)))) (λ t. t) in
      rw (no, cut, ne_eqb (suc (length (split 32 rest))) 2 (λ q. omega arith)))
      (λ h. rw (cut, split-last 32 rest h, same_refl criterion_word))
