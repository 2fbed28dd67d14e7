-- The state of an object in a replay, and what it holds. Assumes nothing.
use Rattle.std.specs.Prelude.{ℕ, ◌+◌, ◌≤◌, ◌≡◌, Bool, true, false, List, [], map, length, get_or, take, drop}
use Rattle.std.proofs.Common.{arith}
use Rattle.history.specs.declared.record.Kind.{Kind}
use Rattle.history.specs.declared.record.Kind.TheVariants.{Register, Queue, Stack, Window, Channel}
use Rattle.history.specs.declared.record.Object.{Object}
use Rattle.history.specs.declared.record.Op.{Op}
use Rattle.history.specs.declared.record.Op.TheVariants.{Read}
use Rattle.history.specs.Kinds.{has_op}
use Rattle.criteria.specs.Object.{fresh, after, gives}
use Rattle.objects.specs.declared.state.State.{State}
use Rattle.objects.specs.declared.state.Given.{Given}

-- A state holds the numbers of the events that put the values there; 64 stands for the value 0 that a register starts with. The values
-- of the events are beside it, by their numbers.
abbrev pub value_in : List ℕ → ℕ → ℕ
value_in vs k = get_or vs k 0

-- What the object holds, oldest first.
unfoldable pub contents_of : List ℕ → State → List ℕ
contents_of vs s = map (value_in vs) (drop s.head (take s.tail s.numbers))

-- The values of an answer.
unfoldable pub given_of : List ℕ → Given → List ℕ
given_of vs a = map (value_in vs) (take a.count a.numbers)

-- Pop and peek take the newest.
abbrev pub is_stack : Kind → Bool
is_stack Register = false
is_stack Queue = false
is_stack Stack = true
is_stack Window = false
is_stack Channel = false

-- How many values an object holds at most. A queue and a stack "have no capacity of their own": 255 is more than 64 events can put there.
abbrev pub limit_for : Kind → ℕ → ℕ
limit_for Register width = 1
limit_for Queue width = 255
limit_for Stack width = 255
limit_for Window width = width
limit_for Channel width = width

abbrev pub limit_of : Object → ℕ
limit_of o = limit_for o.kind o.width

-- What stands in a place that is not used.
abbrev pub no_state : State
no_state = record { numbers = []; head = 0; tail = 0; newest = false; limit = 0; ordered = omega arith; room = omega arith }

-- A state in which an object starts.
pub record Fresh (o : Object) (r : State) : Type 0 where
  pub newest : r.newest ≡ is_stack o.kind
  pub limit : r.limit ≡ limit_of o
  pub head : r.head ≡ 0
  pub tail : r.tail ≤ 1
  pub contents : (vs : List ℕ) → value_in vs 64 ≡ 0 → contents_of vs r ≡ fresh o

-- The state can be one of the object, whose kind has the op: pop takes the end that the kind says, and the limit is the object's.
pub record Suits (o : Object) (op : Op) (s : State) : Type 0 where
  pub newest : is_stack o.kind ≡ s.newest
  pub limit : limit_of o ≡ s.limit
  pub has : has_op o.kind op ≡ true

-- A state that follows on another by an op of the event with this number, whatever the values of the events are.
pub record Changed (s : State) (op : Op) (no : ℕ) (r : State) : Type 0 where
  pub newest : r.newest ≡ s.newest
  pub limit : r.limit ≡ s.limit
  pub ends : r.head ≤ r.tail
  pub room : r.tail ≤ s.tail + 1
  pub contents : (vs : List ℕ) (o : Object) → Suits o op s → contents_of vs r ≡ after o op (value_in vs no) (contents_of vs s)

-- The answer of a state to an op of the event with this number, whatever the values of the events are. Only a read needs that there
-- are at most eight.
pub record Answered (s : State) (op : Op) (no : ℕ) (r : Given) : Type 0 where
  pub values : (vs : List ℕ) (o : Object) → Suits o op s → (op ≡ Read → length (contents_of vs s) ≤ 8)
      → given_of vs r ≡ gives o op (value_in vs no) (contents_of vs s)
