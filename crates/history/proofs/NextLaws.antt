-- Laws of the line that a text begins with. Assumes nothing.
use Prim.Native.Nat.{ℕ, ◌+◌, ◌≤◌, ◌<◌}
use native.Mathlib.Omega.{arith}
use mathlib.Core.Path.{◌≡◌, sym, ap, ◌∙◌}
use mathlib.Core.Bool.{true}
use mathlib.Core.List.{List, ◌∷◌, ◌++◌}
use lib.ListN.{length, take, length-append}
use lib.Seq.{take_at}
use borrow.Author.Tests.{lt-ltb, le-ltb}
use Rattle.std.proofs.Common.{Bor}
use Rattle.std.specs.Prelude.{Result, Option, Some, None, MatchOption, IfSome, Ok, Err}
use Rattle.layout.specs.Split.{find}
use Rattle.layout.proofs.Cases.{by-lt}
use Rattle.layout.proofs.SplitLaws.{without, find-append, find-le}
use Rattle.history.specs.declared.fault.Fault.{Fault}
use Rattle.history.specs.declared.fault.Fault.TheVariants.{Layout}
use Rattle.history.specs.declared.next.Next.{Next}
use Rattle.history.specs.Steps.Next.{line_read}

module _ {A : Type 0} (say : List ℕ → A) (cut : A) (text : List ℕ) where
  -- without a line feed, and with one
  pub next-cut : length text ≤ find 10 text → line_read say cut text ≡ cut
  unfolding line_read
  next-cut h = rw (le-ltb (find 10 text) (length text) h)

  pub next-line : find 10 text < length text → line_read say cut text ≡ say (take (find 10 text) text)
  unfolding line_read
  next-line h = rw (lt-ltb (find 10 text) (length text) h)

  -- a line that the text begins with
  module _ (line rest : List ℕ) (clean : without 10 line ≡ true) (spelt : text ≡ line ++ 10 ∷ rest) where
    first-ends : find 10 text ≡ length line
    first-ends = ap (find 10) spelt ∙ find-append 10 line rest clean

    pub first-long : find 10 text + 1 + length rest ≡ length text
    first-long = omega (arith, first-ends, ap length spelt, length-append line (10 ∷ rest))

    pub first-read : line_read say cut text ≡ say line
    first-read =
        next-line (omega (arith, first-long))
        ∙ ap say (ap (take (find 10 text)) spelt ∙ take_at line (10 ∷ rest) (find 10 text) (sym first-ends))

  -- what the line is, in one pass or cut and read
  pub next-is : {T : Type 0} (told : Result T Fault → A) → told (Err Layout) ≡ cut → (q : Option (T × Bor (List ℕ))) (n : Next T)
      → IfSome q (λ r. (find 10 text + 1 + length r.1.now ≡ length text) × (line_read say cut text ≡ told (Ok r.0)))
      → MatchOption q
      ((n.length ≡ find 10 text) × (find 10 text < length text → told n.read ≡ say (take (find 10 text) text)) × (length text ≤ find 10 text → n.read ≡ Err Layout))
      (λ r. (n.length + 1 + length r.1.now ≡ length text) × (n.read ≡ Ok r.0))
      → (told n.read ≡ line_read say cut text) × (n.length ≡ find 10 text) × (n.length ≤ length text)
  next-is told none None n first m = (
    by-lt (find 10 text) (length text) (λ h. m.1 h ∙ sym (next-line h)) (λ h. ap told (m.2 h) ∙ none ∙ sym (next-cut h)),
    m.0,
    omega (arith, m.0, find-le 10 text),
  )
  next-is told none (Some (v, rest)) n first m =
      (ap told m.1 ∙ sym first.1, omega (arith, m.0, first.0), omega (arith, m.0))
