-- Words of the two layouts, as lists of bytes that are compared whole.
use Rattle.std.specs.Prelude.{ℕ, Bool, true, false, ◌&&◌, List, [], ◌∷◌, eqb}

-- Two lists of bytes are the same.
unfoldable pub same : List ℕ → List ℕ → Bool
same [] [] = true
same [] (y ∷ ys) = false
same (x ∷ xs) [] = false
same (x ∷ xs) (y ∷ ys) = eqb x y && same xs ys

-- `-`: no value, no width, an empty list.
abbrev pub dash : List ℕ
dash = 45 ∷ []

-- `?`: an answer that was lost.
abbrev pub question : List ℕ
question = 63 ∷ []

-- ---- the words of the kinds
-- `register`
abbrev pub register_word : List ℕ
register_word = 114 ∷ 101 ∷ 103 ∷ 105 ∷ 115 ∷ 116 ∷ 101 ∷ 114 ∷ []

-- `queue`
abbrev pub queue_word : List ℕ
queue_word = 113 ∷ 117 ∷ 101 ∷ 117 ∷ 101 ∷ []

-- `stack`
abbrev pub stack_word : List ℕ
stack_word = 115 ∷ 116 ∷ 97 ∷ 99 ∷ 107 ∷ []

-- `window`
abbrev pub window_word : List ℕ
window_word = 119 ∷ 105 ∷ 110 ∷ 100 ∷ 111 ∷ 119 ∷ []

-- `channel`
abbrev pub channel_word : List ℕ
channel_word = 99 ∷ 104 ∷ 97 ∷ 110 ∷ 110 ∷ 101 ∷ 108 ∷ []

-- ---- the words of the operations
-- `write`
abbrev pub write_word : List ℕ
write_word = 119 ∷ 114 ∷ 105 ∷ 116 ∷ 101 ∷ []

-- `read`
abbrev pub read_word : List ℕ
read_word = 114 ∷ 101 ∷ 97 ∷ 100 ∷ []

-- `push`
abbrev pub push_word : List ℕ
push_word = 112 ∷ 117 ∷ 115 ∷ 104 ∷ []

-- `pop`
abbrev pub pop_word : List ℕ
pop_word = 112 ∷ 111 ∷ 112 ∷ []

-- `peek`
abbrev pub peek_word : List ℕ
peek_word = 112 ∷ 101 ∷ 101 ∷ 107 ∷ []

-- ---- the words of the criteria
-- `pram`
abbrev pub pram_word : List ℕ
pram_word = 112 ∷ 114 ∷ 97 ∷ 109 ∷ []

-- `weak`
abbrev pub weak_word : List ℕ
weak_word = 119 ∷ 101 ∷ 97 ∷ 107 ∷ []

-- `causal`
abbrev pub causal_word : List ℕ
causal_word = 99 ∷ 97 ∷ 117 ∷ 115 ∷ 97 ∷ 108 ∷ []

-- `converge`
abbrev pub converge_word : List ℕ
converge_word = 99 ∷ 111 ∷ 110 ∷ 118 ∷ 101 ∷ 114 ∷ 103 ∷ 101 ∷ []

-- `sequential`
abbrev pub sequential_word : List ℕ
sequential_word = 115 ∷ 101 ∷ 113 ∷ 117 ∷ 101 ∷ 110 ∷ 116 ∷ 105 ∷ 97 ∷ 108 ∷ []

-- `strict`
abbrev pub strict_word : List ℕ
strict_word = 115 ∷ 116 ∷ 114 ∷ 105 ∷ 99 ∷ 116 ∷ []

-- ---- headings, and the first word of a certificate
-- `object kind width`
abbrev pub object_heading : List ℕ
object_heading = 111 ∷ 98 ∷ 106 ∷ 101 ∷ 99 ∷ 116 ∷ 32 ∷ 107 ∷ 105 ∷ 110 ∷ 100 ∷ 32 ∷ 119 ∷ 105 ∷ 100 ∷ 116 ∷ 104 ∷ []

-- `event process object op value answer`
abbrev pub event_heading : List ℕ
event_heading = 101 ∷ 118 ∷ 101 ∷ 110 ∷ 116 ∷ 32 ∷ 112 ∷ 114 ∷ 111 ∷ 99 ∷ 101 ∷ 115 ∷ 115 ∷ 32 ∷ 111 ∷ 98 ∷ 106 ∷ 101 ∷ 99 ∷ 116 ∷ 32 ∷ 111 ∷ 112 ∷ 32 ∷ 118 ∷ 97 ∷ 108 ∷ 117 ∷ 101 ∷ 32 ∷ 97 ∷ 110 ∷ 115 ∷ 119 ∷ 101 ∷ 114 ∷ []

-- `criterion`
abbrev pub criterion_word : List ℕ
criterion_word = 99 ∷ 114 ∷ 105 ∷ 116 ∷ 101 ∷ 114 ∷ 105 ∷ 111 ∷ 110 ∷ []

-- `event past`
abbrev pub past_heading : List ℕ
past_heading = 101 ∷ 118 ∷ 101 ∷ 110 ∷ 116 ∷ 32 ∷ 112 ∷ 97 ∷ 115 ∷ 116 ∷ []

-- `view order`
abbrev pub view_heading : List ℕ
view_heading = 118 ∷ 105 ∷ 101 ∷ 119 ∷ 32 ∷ 111 ∷ 114 ∷ 100 ∷ 101 ∷ 114 ∷ []
