-- Histories as lists, orders of their events, and views (document 01, "Five criteria"; source document 004, Definition 4: here a
-- history is finite, and its processes are sequences of numbered events). An event is named by its number.
use Rattle.std.specs.Prelude.{◌≡◌, Bool, true, false, ◌&&◌, ◌||◌, List, [], ℕ, ◌<◌, eqb, ltb, length, get_or}
use Rattle.std.proofs.Math.Option.{Option, some}
use Rattle.history.specs.declared.record.Kind.TheVariants.{Register}
use Rattle.history.specs.declared.record.Op.{Op}
use Rattle.history.specs.declared.record.Op.TheVariants.{Read}
use Rattle.history.specs.declared.record.Object.{Object}
use Rattle.criteria.specs.Tests.{count, one}

-- The process that did it, the object that it was done to, the op and its value, and the recorded answer: none where it was lost.
pub record Event : Type 0 where
  pub process : ℕ
  pub object : ℕ
  pub op : Op
  pub value : ℕ
  pub answer : Option (List ℕ)

pub record History : Type 0 where
  pub objects : List Object
  pub events : List Event

abbrev pub size : History → ℕ
size h = length h.events

-- The event and the object of a number (any one, past the last).
abbrev pub event : History → ℕ → Event
event h e = get_or h.events e record { process = 0; object = 0; op = Read; value = 0; answer = some [] }

abbrev pub object : History → ℕ → Object
object h o = get_or h.objects o record { kind = Register; width = 0 }

abbrev pub process : History → ℕ → ℕ
process h e = (event h e).process

-- "Program order: a comes before b when both are of one process and a has the smaller number."
unfoldable pub program_order : History → ℕ → ℕ → Bool
program_order h a b = ltb a b && ltb b (size h) && eqb (process h a) (process h b)

-- "A causal order is a strict partial order of the events (none before itself, transitive) that contains program order." R a b
-- says that a comes before b. It is a test, since membership in a finite set can be decided. (004, Definition 7; in a finite history
-- its last clause is void, and its partial order is the strict one with equality added.)
pub record CausalOrder (h : History) (R : ℕ → ℕ → Bool) : Type 0 where
  pub of_events : (a b : ℕ) → R a b ≡ true → (a < size h) × (b < size h)
  pub irreflexive : (a : ℕ) → R a a ≡ false
  pub transitive : (a b c : ℕ) → R a b ≡ true → R b c ≡ true → R a c ≡ true
  pub program : (a b : ℕ) → program_order h a b ≡ true → R a b ≡ true

-- ---- sets of events, as tests
-- All events; past(e), "the set of events before e", and e; e alone; those of process p.
abbrev pub is_event : History → ℕ → Bool
is_event h f = ltb f (size h)

abbrev pub past_with : (ℕ → ℕ → Bool) → ℕ → ℕ → Bool
past_with R e f = R f e || eqb f e

abbrev pub only : ℕ → ℕ → Bool
only e f = eqb f e

abbrev pub own : History → ℕ → ℕ → Bool
own h p f = eqb (process h f) p

-- ---- views
-- "A view is an ordering of a set of events, each once": each member of the set stands in the list once, and nothing else does.
unfoldable pub IsView : (ℕ → Bool) → List ℕ → Type 0
IsView P v = (e : ℕ) → count e v ≡ one (P e)

-- The view extends an order: what comes before another event stands before it.
unfoldable pub Extends : (ℕ → ℕ → Bool) → List ℕ → Type 0
Extends R v = (i j : ℕ) → i < length v → j < length v → R (get_or v i 0) (get_or v j 0) ≡ true → i < j

-- "Before each event" of the set "only its past stands" (document 02, T-06).
unfoldable pub OnlyPast : (ℕ → ℕ → Bool) → (ℕ → Bool) → List ℕ → Type 0
OnlyPast R P v = (i j : ℕ) → i < j → j < length v → P (get_or v j 0) ≡ true → R (get_or v i 0) (get_or v j 0) ≡ true
