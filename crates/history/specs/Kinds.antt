-- Kinds and ops: their words, and which width, op, value and answer a kind allows (document 01, "Objects"; document 02, T-02, T-04).
use Rattle.std.specs.Prelude.{ℕ, Bool, true, false, cond, not, ◌||◌, List, eqb, leb}
use Rattle.layout.specs.Word.{same, register_word, queue_word, stack_word, window_word, channel_word, write_word, read_word, push_word, pop_word, peek_word}
use Rattle.history.specs.declared.record.Kind.{Kind}
use Rattle.history.specs.declared.record.Kind.TheVariants.{Register, Queue, Stack, Window, Channel}
use Rattle.history.specs.declared.record.Op.{Op}
use Rattle.history.specs.declared.record.Op.TheVariants.{Write, Read, Push, Pop, Peek}
use Rattle.history.specs.declared.record.Object.{Object}
use Rattle.history.specs.declared.record.Answer.{Answer}

unfoldable pub kind_word : Kind → List ℕ
kind_word Register = register_word
kind_word Queue = queue_word
kind_word Stack = stack_word
kind_word Window = window_word
kind_word Channel = channel_word

unfoldable pub op_word : Op → List ℕ
op_word Write = write_word
op_word Read = read_word
op_word Push = push_word
op_word Pop = pop_word
op_word Peek = peek_word

-- The word is a kind's, and that kind (Register for any other word).
unfoldable pub is_kind : List ℕ → Bool
is_kind f = same f queue_word || (same f stack_word || (same f window_word || (same f channel_word || same f register_word)))

unfoldable pub kind_of : List ℕ → Kind
kind_of f =
    cond (same f queue_word) Queue
    (cond (same f stack_word) Stack (cond (same f window_word) Window (cond (same f channel_word) Channel Register)))

-- The word is an op's, and that op (Write for any other word).
unfoldable pub is_op : List ℕ → Bool
is_op f = same f read_word || (same f push_word || (same f pop_word || (same f peek_word || same f write_word)))

unfoldable pub op_of : List ℕ → Op
op_of f = cond (same f read_word) Read (cond (same f push_word) Push (cond (same f pop_word) Pop (cond (same f peek_word) Peek Write)))

-- The kind is "a queue with a capacity".
abbrev pub is_channel : Kind → Bool
is_channel Register = false
is_channel Queue = false
is_channel Stack = false
is_channel Window = false
is_channel Channel = true

-- The kind has a width: a window its own, a channel its "capacity of 1 to 64 in the width field".
abbrev pub has_width : Kind → Bool
has_width Register = false
has_width Queue = false
has_width Stack = false
has_width Window = true
has_width Channel = true

-- "Limits on width fall under 3, 64 for a channel and 8 on any other kind."
abbrev pub width_limit : Kind → ℕ
width_limit kind = cond (is_channel kind) 64 8

-- The kind has push, pop and peek; else it has write and read.
abbrev pub is_shelf : Kind → Bool
is_shelf Register = false
is_shelf Queue = true
is_shelf Stack = true
is_shelf Window = false
is_shelf Channel = true

abbrev pub is_shelf_op : Op → Bool
is_shelf_op Write = false
is_shelf_op Read = false
is_shelf_op Push = true
is_shelf_op Pop = true
is_shelf_op Peek = true

-- The op is one that the kind has.
abbrev pub has_op : Kind → Op → Bool
has_op kind op = cond (is_shelf kind) (is_shelf_op op) (not (is_shelf_op op))

-- The op has a value: write and push. For read, pop and peek the value is `-`.
abbrev pub takes_value : Op → Bool
takes_value Write = true
takes_value Read = false
takes_value Push = true
takes_value Pop = false
takes_value Peek = false

-- A read can answer so many values: a register's one, and of a window "fault 5 now allows 0 to k values" (document 02, T-04). (The
-- other kinds have no read.)
abbrev pub read_can_answer : Kind → ℕ → ℕ → Bool
read_can_answer Register width n = eqb n 1
read_can_answer Queue width n = eqb n 1
read_can_answer Stack width n = eqb n 1
read_can_answer Window width n = leb n width
read_can_answer Channel width n = eqb n 1

-- A push can answer so many values: on a channel "5 allows zero or one value for this push".
abbrev pub push_can_answer : Kind → ℕ → Bool
push_can_answer kind n = cond (is_channel kind) (leb n 1) (eqb n 0)

-- An op of an object can answer so many values.
abbrev pub can_answer : Object → Op → ℕ → Bool
can_answer o Write n = eqb n 0
can_answer o Read n = read_can_answer o.kind o.width n
can_answer o Push n = push_can_answer o.kind n
can_answer o Pop n = leb n 1
can_answer o Peek n = leb n 1

-- An op of an object can give the answer. "Fault 5 doesn't apply to `?`" (document 02, T-01): any op's answer may be lost, and then it
-- has no value.
abbrev pub may_answer : Object → Op → Answer → Bool
may_answer o op a = cond a.lost (eqb a.count 0) (can_answer o op a.count)
