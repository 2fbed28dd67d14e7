-- What a reader keeps of the line that a text begins with.
use Rattle.std.specs.Prelude.{ℕ, cond, List, length, take, ltb}
use Rattle.layout.specs.Split.{find}

-- What the line says that a text begins with, up to its line feed; or `cut` of a text without one.
unfoldable pub line_read : {A : Type 0} → (List ℕ → A) → A → List ℕ → A
line_read say cut text = cond (ltb (find 10 text) (length text)) (say (take (find 10 text) text)) cut
