-- A table of words, with what each of them names.
use Rattle.std.specs.Prelude.{ℕ, cond, List, [], ◌∷◌, Option, Some, None}
use denote.Ref.{Bor}
use Rattle.layout.specs.Word.{same}

-- What stands beside the first word of the table that the field is.
unfoldable pub named : {A : Type 0} → List ℕ → List (Bor (List ℕ) × A) → Option A
named f [] = None
named f (p ∷ ps) = cond (same f p.0.now) (Some p.1) (named f ps)
