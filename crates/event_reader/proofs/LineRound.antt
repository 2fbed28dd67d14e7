-- Laws of fields as they are written, for the round trips of the lines of objects and events. Assumes nothing.
use Prim.Native.Nat.{ℕ}
use mathlib.Core.Path.{◌≡◌, sym, ap, ◌∙◌}
use mathlib.Core.Bool.{Bool, true, false, cond, not, false≢true}
use mathlib.Core.List.{List}
use borrow.Author.Tests.{not-true}
use Rattle.layout.specs.Word.{same, dash}
use Rattle.layout.specs.Number.{is_digit, all_digits, starts_well, is_number, spell}
use Rattle.layout.proofs.Cases.{by_bool}
use Rattle.layout.proofs.SplitLaws.{without}
use Rattle.layout.proofs.WordLaws.{same_true, same_refl}
use Rattle.layout.proofs.SpellLaws.{number-spell, value-spell, spell-value, spell-without}
use Rattle.layout.proofs.ListTextLaws.{dash-without}
use Rattle.history.specs.Faults.{is_optional, optional}

-- ---- a number, or `-`
number-not-dash : (f : List ℕ) → is_number f ≡ true → same f dash ≡ false
unfolding is_number starts_well all_digits is_digit
number-not-dash f e =
    by_bool (same f dash) (λ d. absurd (false≢true (ap is_number (sym (same_true f dash d)) ∙ e))) (λ d. d)

pub spell-not-dash : (n : ℕ) → same (spell n) dash ≡ false
spell-not-dash n = number-not-dash (spell n) (number-spell n)

pub option-without : (b : ℕ) → is_digit b ≡ false → (b ≡ 45 → ⊥) → (t : Bool) (n : ℕ) → without b (cond t (spell n) dash) ≡ true
option-without b d h true n = spell-without b n d
option-without b d h false n = dash-without b h

-- as it is written: it has its layout, stands where it may, and says its number
pub option-layout : (t : Bool) (n : ℕ) → is_optional (cond t (spell n) dash) ≡ true
unfolding is_optional
option-layout true n = rw (spell-not-dash n) (number-spell n)
option-layout false n = rw (same_refl dash)

pub option-fits : (t : Bool) (n : ℕ)
    → cond t (not (same (cond t (spell n) dash) dash)) (same (cond t (spell n) dash) dash) ≡ true
option-fits true n = rw (spell-not-dash n)
option-fits false n = same_refl dash

pub option-value : (t : Bool) (n : ℕ) → optional (cond t (spell n) dash) ≡ cond t n 0
unfolding optional
option-value true n = rw (spell-not-dash n) (value-spell n)
option-value false n = rw (same_refl dash)

-- as it is read: its number writes it again
pub option-says : (t : Bool) (f : List ℕ) → is_optional f ≡ true → cond t (not (same f dash)) (same f dash) ≡ true
    → cond t (spell (optional f)) dash ≡ f
unfolding is_optional optional
option-says true f o e = let d = not-true (same f dash) e in rw d (spell-value f (rw d at o))
option-says false f o e = sym (same_true f dash e)
