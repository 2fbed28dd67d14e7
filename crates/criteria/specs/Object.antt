-- The five kinds of object (documents 01 and 02): what one holds at first, what an op makes of it and what it answers. What it
-- holds is a list of values, oldest first.
use Rattle.std.specs.Prelude.{List, [], ◌∷◌, ◌++◌, Bool, cond, ◌&&◌, ℕ, ◌-◌, length, take, drop, leb}
use Rattle.history.specs.declared.record.Kind.{Kind}
use Rattle.history.specs.declared.record.Kind.TheVariants.{Register, Queue, Stack, Window, Channel}
use Rattle.history.specs.declared.record.Op.{Op}
use Rattle.history.specs.declared.record.Op.TheVariants.{Write, Read, Push, Pop, Peek}
use Rattle.history.specs.declared.record.Object.{Object}
use Rattle.history.specs.Kinds.{is_channel}

-- "register: starts at 0", "queue, stack: start empty", "a window starts empty" (document 02, T-04). A channel is a queue.
abbrev pub fresh_of : Kind → ℕ → List ℕ
fresh_of Register width = 0 ∷ []
fresh_of Queue width = []
fresh_of Stack width = []
fresh_of Window width = []
fresh_of Channel width = []

abbrev pub fresh : Object → List ℕ
fresh o = fresh_of o.kind o.width

-- "The oldest in a queue, the newest in a stack": the value that pop takes, as a list of one, or none of an empty object; and
-- what is left without it. (Registers and windows have no pop.) A channel is a queue.
abbrev pub top : Kind → List ℕ → List ℕ
top Register s = take 1 s
top Queue s = take 1 s
top Stack s = drop (length s - 1) s
top Window s = take 1 s
top Channel s = take 1 s

abbrev pub untop : Kind → List ℕ → List ℕ
untop Register s = drop 1 s
untop Queue s = drop 1 s
untop Stack s = take (length s - 1) s
untop Window s = drop 1 s
untop Channel s = drop 1 s

-- "a queue with a capacity of 1 to 64 in the width field"; "The last slot is usable": a channel is full when it holds as many values as
-- its width says, and no other kind ever is.
abbrev pub full : Object → List ℕ → Bool
full o s = is_channel o.kind && leb o.width (length s)

-- How many of the values written are kept: of a register "the one value held", of a window of width k "the last k values written".
-- (The other kinds have no write.)
abbrev pub keeps : Kind → ℕ → ℕ
keeps Register width = 1
keeps Queue width = 1
keeps Stack width = 1
keeps Window width = width
keeps Channel width = 1

-- "the last k values .., or all of them while there are fewer"
abbrev pub last_values : ℕ → List ℕ → List ℕ
last_values k s = drop (length s - k) s

-- What an op with its value makes of what the object holds. `write v` adds v, and as many of the last values as the object keeps stay;
-- of a register that is the new value. `push v` adds v; "onto a full channel" it "changes nothing". `pop`: "removes one value"; "on an
-- empty object" it "changes nothing". `read` and `peek` change nothing.
abbrev pub after : Object → Op → ℕ → List ℕ → List ℕ
after o Write v s = last_values (keeps o.kind o.width) (s ++ (v ∷ []))
after o Push v s = cond (full o s) s (s ++ (v ∷ []))
after o Read v s = s
after o Pop v s = untop o.kind s
after o Peek v s = s

-- What an op with its value answers. `write`: "the empty list". `push v` onto a full channel "answers the pushed value; otherwise
-- its answer is empty". `read`: "the one value held", "the last k values written, or all of them while there are fewer, oldest first".
-- `pop` and `peek`: one value, or "the empty list" on an empty object.
abbrev pub gives : Object → Op → ℕ → List ℕ → List ℕ
gives o Write v s = []
gives o Push v s = cond (full o s) (v ∷ []) []
gives o Read v s = s
gives o Pop v s = top o.kind s
gives o Peek v s = top o.kind s
