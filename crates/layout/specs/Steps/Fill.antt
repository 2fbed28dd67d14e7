-- A buffer that is written from left to right.
use Rattle.std.specs.Prelude.{ℕ, List, ◌++◌, take, drop}
use Rattle.layout.specs.Fill.{fill}

-- The buffer with the text from the place `at` on and all else unchanged.
unfoldable pub fill_at : ℕ → List ℕ → List ℕ → List ℕ
fill_at at text buffer = take at buffer ++ fill text (drop at buffer)
