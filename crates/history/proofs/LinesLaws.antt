-- Laws of lines, each with its line feed. Assumes nothing.
use Prim.Native.Nat.{ℕ, suc, ◌+◌}
use mathlib.Core.Path.{◌≡◌, refl, sym, ap, ◌∙◌}
use mathlib.Core.List.{List, [], ◌∷◌, ◌++◌, append_assoc}
use lib.ListN.{length}
use Rattle.history.specs.HistoryText.{lines_text, object_text, event_text, object_lines, event_lines}

pub lines_none : lines_text [] ≡ []
unfolding lines_text
lines_none = refl

pub lines_more : (l : List ℕ) (ls : List (List ℕ)) → lines_text (l ∷ ls) ≡ (l ++ 10 ∷ []) ++ lines_text ls
unfolding lines_text
lines_more l ls = sym (append_assoc l (10 ∷ []) (lines_text ls))

pub lines_append : (ls ms : List (List ℕ)) → lines_text (ls ++ ms) ≡ lines_text ls ++ lines_text ms
unfolding lines_text
lines_append [] ms = refl
lines_append (l ∷ ls) ms =
    ap (λ (r : List ℕ). l ++ 10 ∷ r) (lines_append ls ms) ∙ sym (append_assoc l (10 ∷ lines_text ls) (lines_text ms))

-- ---- numbered lines
-- `lines` are the lines of a list whose elements are numbered, and `text` is the line of one
pub record Numbered {A : Type 0} (text : ℕ → A → List ℕ) (lines : ℕ → List A → List (List ℕ)) : Type 0 where
  pub none : (own : ℕ) → lines own [] ≡ []
  pub more : (own : ℕ) (x : A) (xs : List A) → lines own (x ∷ xs) ≡ text own x ∷ lines (own + 1) xs

pub numbered_objects : Numbered object_text object_lines
unfolding object_lines
numbered_objects = record { none = λ own. refl; more = λ own x xs. refl }

pub numbered_events : Numbered event_text event_lines
unfolding event_lines
numbered_events = record { none = λ own. refl; more = λ own x xs. refl }

-- there are as many lines as elements
pub numbered-long : {A : Type 0} {text : ℕ → A → List ℕ} {lines : ℕ → List A → List (List ℕ)} → Numbered text lines → (own : ℕ) (xs : List A)
    → length (lines own xs) ≡ length xs
numbered-long t own [] = ap length (t.none own)
numbered-long t own (x ∷ xs) = ap length (t.more own x xs) ∙ ap suc (numbered-long t (own + 1) xs)
