-- Laws of what a text begins with. Assumes nothing.
use Prim.Native.Nat.{ℕ, ◌+◌, ◌-◌, ◌≤◌, ◌<◌}
use native.Mathlib.Numerals.{add-one}
use native.Mathlib.Omega.{arith}
use mathlib.Core.Path.{◌≡◌, refl, sym, ap, ap₂, ◌∙◌}
use mathlib.Core.Bool.{true, false}
use mathlib.Core.List.{List, [], ◌∷◌, ◌++◌}
use lib.ListN.{length, get_or, take, drop, take-append-drop}
use lib.Seq.{drop-cons, drop-drop}
use Rattle.std.specs.Prelude.{Option, Some, None, Result, Ok, Err}
use Rattle.layout.specs.declared.number.NumberFault.{NumberFault}
use Rattle.layout.specs.Word.{same}
use Rattle.layout.specs.Number.{starts_well, is_number, value, below, number_of, spell}
use Rattle.layout.specs.Steps.Number.{digits}
use Rattle.layout.specs.Steps.Stands.{stands_at}
use Rattle.layout.specs.Steps.Leading.{told, leading_number, behind_space, number_before_space}
use Rattle.layout.proofs.Cases.{by_bool}
use Rattle.layout.proofs.FillLaws.{tail-part}
use Rattle.layout.proofs.WordLaws.{same_true}
use Rattle.layout.proofs.NumberLaws.{below-value, below-not, digits-prefix, digits-few, digits-number, starts-not, number-not, number-below, value-number}
use Rattle.layout.proofs.SpellLaws.{spell-value}

-- ---- a byte, and what stands behind it
pub at-cons : (s : List ℕ) (a : ℕ) → a < length s → drop a s ≡ get_or s a 0 ∷ drop (a + 1) s
at-cons s a h = rw add-one (drop-cons s a 0 h)

pub byte-leads : (s : List ℕ) (b : ℕ) → 1 ≤ length s → get_or s 0 0 ≡ b → s ≡ b ∷ take (length s - 1) (drop 1 s)
byte-leads [] b h e = absurd (omega arith)
byte-leads (x ∷ s) b h e = ap₂ {C = List ℕ} ◌∷◌ e (sym (tail-part (x ∷ s) 1))

-- ---- a number, with what stands behind its digits
told-some : (q : Result ℕ NumberFault) (rest : List ℕ) (v : ℕ) (r : List ℕ) → told q rest ≡ Some (v, r) → (q ≡ Ok v) × (rest ≡ r)
told-some (Ok w) rest v r e = let t : ◌≡◌ {A = ℕ × List ℕ} (w, rest) (v, r) = cc in (ap (λ (p : ℕ × List ℕ). Ok p.0) t, ap (λ (p : ℕ × List ℕ). p.1) t)
told-some (Err f) rest v r e = absurd (cc)

module _ (bound : ℕ) (text : List ℕ) where
  -- what the text is, and that the number is below the bound
  pub number-leads : (v : ℕ) (rest : List ℕ) → leading_number bound text ≡ Some (v, rest) → (text ≡ spell v ++ rest) × (v < bound)
  unfolding leading_number
  number-leads v rest e =
      let ds : List ℕ = digits text in
      let t = told-some (number_of bound ds) (drop (length ds) text) v rest e in
      let n = value-number bound ds v t.0 in
      let d : text ≡ ds ++ drop (length ds) text =
      sym (take-append-drop (length ds) text) ∙ ap (λ (l : List ℕ). l ++ drop (length ds) text) (digits-prefix text) in
      (d ∙ ap₂ (λ (f l : List ℕ). f ++ l) (sym (spell-value ds n.0) ∙ ap spell n.1) t.1, n.2)

  -- what its digits say below the bound, as v says it, and where they end
  module _ (v n : ℕ) (says : below bound v ≡ below bound (value (digits text))) (long : n ≡ length (digits text)) where
    told-is : v < bound → starts_well (take n text) ≡ true → leading_number bound text ≡ Some (v, drop n text)
    unfolding leading_number
    told-is h e =
        let is = digits-number text (rw (long, digits-prefix text) at e) in
        rw (number-below bound (digits text) is, ← says, below-value bound v h, long) refl

    pub leads : v < bound → starts_well (take n text) ≡ true → (leading_number bound text ≡ Some (v, drop n text)) × (v < bound) × (n ≤ length text)
    leads h e = (told-is h e, h, omega (arith, long, digits-few text))

    none-by : (f : NumberFault) → number_of bound (digits text) ≡ Err f → leading_number bound text ≡ None
    unfolding leading_number
    none-by f e = rw e refl

    pub leads-over : bound ≤ v → leading_number bound text ≡ None
    leads-over h =
        by_bool (is_number (digits text))
        (λ e. none-by _ (number-below bound (digits text) e ∙ sym says ∙ below-not bound v h))
        (λ e. none-by _ (number-not bound (digits text) e))

    pub leads-not : starts_well (take n text) ≡ false → leading_number bound text ≡ None
    leads-not e = none-by _ (number-not bound (digits text) (starts-not (digits text) (rw (long, digits-prefix text) at e)))

-- ---- with a space behind it
behind-some : (o : Option (ℕ × List ℕ)) (v : ℕ) (rest : List ℕ) → behind_space o ≡ Some (v, rest)
    → (r : List ℕ) × (o ≡ Some (v, r)) × (r ≡ 32 ∷ rest)
behind-some None v rest e = absurd (cc)
behind-some (Some (w, r)) v rest e =
    by_bool (same (take 1 r) (32 ∷ []))
    (λ b.
    let p : Some (w, drop 1 r) ≡ Some (v, rest) = rw b at e in
    let t : ◌≡◌ {A = ℕ × List ℕ} (w, drop 1 r) (v, rest) = cc in (
      r,
      ap (λ (n : ℕ). Some (n, r)) (ap (λ (a : ℕ × List ℕ). a.0) t),
      sym (take-append-drop 1 r) ∙ ap₂ (λ (f l : List ℕ). f ++ l) (same_true _ _ b) (ap (λ (a : ℕ × List ℕ). a.1) t),
    ))
    (λ b. let p : ◌≡◌ {A = Option (ℕ × List ℕ)} None (Some (v, rest)) = rw b at e in absurd (cc))

module _ (bound : ℕ) (text : List ℕ) where
  -- what the text is, and that the number is below the bound
  pub spaced_leads : (v : ℕ) (rest : List ℕ) → number_before_space bound text ≡ Some (v, rest) → (text ≡ spell v ++ 32 ∷ rest) × (v < bound)
  unfolding number_before_space
  spaced_leads v rest e =
      let t = behind-some (leading_number bound text) v rest e in
      let n = number-leads bound text v t.0 t.1 in
      (n.0 ∙ ap (λ (l : List ℕ). spell v ++ l) t.2, n.1)

  pub spaced-none : leading_number bound text ≡ None → number_before_space bound text ≡ None
  unfolding number_before_space
  spaced-none e = rw e refl

  -- the number's digits end at n
  module _ (v n : ℕ) (leads : leading_number bound text ≡ Some (v, drop n text)) where
    pub spaced-not : stands_at (32 ∷ []) n text ≡ false → number_before_space bound text ≡ None
    unfolding number_before_space stands_at
    spaced-not e = rw (leads, e) refl

    pub spaced-is : stands_at (32 ∷ []) n text ≡ true → number_before_space bound text ≡ Some (v, drop (n + 1) text)
    unfolding number_before_space stands_at
    spaced-is e = rw (leads, e, drop-drop 1 n text) refl
