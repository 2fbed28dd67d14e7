-- Document 01's samples marked (p), on lists (C as document 02, T-04 has it), Q with a lost answer, a window that holds fewer and one
-- that was given more values than its width, a channel that gets full, and source document 001's stack: theorems by computation.
-- Assumes nothing.
use mathlib.Core.Path.{◌≡◌, refl}
use mathlib.Core.Bool.{true}
use mathlib.Core.List.{List, [], ◌∷◌}
use mathlib.Core.Option.{none, some}
use Prim.Native.Nat.{ℕ}
use native.Mathlib.Omega.{arith}
use Rattle.history.specs.declared.record.Kind.TheVariants as kinds
use Rattle.history.specs.declared.record.Kind.TheVariants.{Register, Queue, Window, Channel}
use Rattle.history.specs.declared.record.Op.{Op}
use Rattle.history.specs.declared.record.Op.TheVariants.{Write, Read, Push, Pop}
use Rattle.certificate.specs.declared.record.Criterion.{Criterion}
use Rattle.certificate.specs.declared.record.Criterion.TheVariants.{Sequential, Pram, Weak, Causal, Converge, Strict}
use Rattle.criteria.specs.History.{History, Event, own, program_order}
use Rattle.criteria.specs.Replay.{start, Replays}
use Rattle.criteria.specs.Criteria.{MeetsSequential, MeetsStrict, Meets}
use Rattle.criteria.specs.Certificate.{Certificate, processes}
use Rattle.criteria.specs.Check.{fault11, fault12, fault14, fault16, fault20, lacks_own, lacks_past, not_its_set, against, outside_past, right, check}
use Rattle.criteria.proofs.Lists.{clash}
use Rattle.criteria.proofs.Replay.{none-wrong}
use Rattle.criteria.proofs.Search.{some_order, no-view, in-past}

-- process, object, op, value, answer
abbrev pub ev : ℕ → ℕ → Op → ℕ → List ℕ → Event
ev p o op v a = record { process = p; object = o; op = op; value = v; answer = some a }

abbrev pub claim : Criterion → List (List ℕ) → List (List ℕ) → Certificate
claim w ps vs = record { criterion = w; pasts = ps; views = vs }

abbrev pub Q : History
Q = record {
  objects = record { kind = Queue; width = 0 } ∷ [];
  events = ev 0 0 Push 7 [] ∷ ev 1 0 Pop 0 (7 ∷ []) ∷ [];
}

pub Q-sequential : check Q (claim Sequential [] ((0 ∷ 1 ∷ []) ∷ [])) ≡ none
unfolding lacks_own lacks_past not_its_set against right check program_order processes
Q-sequential = refl

pub Q-turned : check Q (claim Sequential [] ((1 ∷ 0 ∷ []) ∷ [])) ≡ some (fault16 0 1)
unfolding lacks_own lacks_past not_its_set against right check program_order processes
Q-turned = refl

pub Q-short : check Q (claim Sequential [] ((0 ∷ []) ∷ [])) ≡ some (fault14 0)
unfolding lacks_own lacks_past not_its_set against right check program_order processes
Q-short = refl

pub Q-pram : check Q (claim Pram [] ((0 ∷ 1 ∷ []) ∷ (0 ∷ 1 ∷ []) ∷ [])) ≡ none
unfolding lacks_own lacks_past not_its_set against right check program_order processes
Q-pram = refl

-- Q with the answer of event 1 lost: each of its two orders is accepted
abbrev pub Lost : History
Lost = record {
  objects = record { kind = Queue; width = 0 } ∷ [];
  events = ev 0 0 Push 7 [] ∷ record { process = 1; object = 0; op = Pop; value = 0; answer = none } ∷ [];
}

pub Lost-sequential : check Lost (claim Sequential [] ((0 ∷ 1 ∷ []) ∷ [])) ≡ none
unfolding lacks_own lacks_past not_its_set against right check program_order processes
Lost-sequential = refl

pub Lost-turned : check Lost (claim Sequential [] ((1 ∷ 0 ∷ []) ∷ [])) ≡ none
unfolding lacks_own lacks_past not_its_set against right check program_order processes
Lost-turned = refl

-- pram numbers its views by process: here processes 1 and 3
abbrev pub P : History
P = record {
  objects = record { kind = Queue; width = 0 } ∷ [];
  events = ev 1 0 Push 7 [] ∷ ev 3 0 Pop 0 (7 ∷ []) ∷ [];
}

pub P-pram : check P (claim Pram [] ((0 ∷ 1 ∷ []) ∷ (1 ∷ 0 ∷ []) ∷ [])) ≡ some (fault16 3 1)
unfolding lacks_own lacks_past not_its_set against right check program_order processes
P-pram = refl

abbrev pub W : History
W = record {
  objects = record { kind = Window; width = 2 } ∷ [];
  events = ev 0 0 Write 4 [] ∷ ev 0 0 Read 0 (9 ∷ 4 ∷ []) ∷ ev 1 0 Write 9 [] ∷ ev 1 0 Read 0 (4 ∷ 9 ∷ []) ∷ [];
}

pub W-causal : check W
    (claim Causal ([] ∷ (0 ∷ 2 ∷ []) ∷ [] ∷ (0 ∷ 2 ∷ []) ∷ [])
    ((0 ∷ []) ∷ (2 ∷ 0 ∷ 1 ∷ []) ∷ (2 ∷ []) ∷ (0 ∷ 2 ∷ 3 ∷ []) ∷ [])) ≡ none
unfolding lacks_own lacks_past not_its_set against right check program_order processes
W-causal = refl

pub W-past : (vs : List (List ℕ)) → check W (claim Causal ([] ∷ (2 ∷ []) ∷ [] ∷ (0 ∷ 2 ∷ []) ∷ []) vs) ≡ some (fault11 1)
unfolding lacks_own lacks_past not_its_set against right check program_order processes
W-past vs = refl

-- with the pasts of W-causal, 2 stands before 0 in process 0's view, and is not in its past
pub W-outside : check W
    (claim Strict ([] ∷ (0 ∷ 2 ∷ []) ∷ [] ∷ (0 ∷ 2 ∷ []) ∷ []) ((2 ∷ 0 ∷ 1 ∷ 3 ∷ []) ∷ (0 ∷ 2 ∷ 3 ∷ 1 ∷ []) ∷ [])) ≡ some (fault20 0)
unfolding lacks_own lacks_past not_its_set against outside_past right check program_order processes
W-outside = refl

-- no certificate helps: process 0's answer 9,4 puts 2 in the past of 0, and process 1's answer 4,9 puts 0 in the past of 2
pub W-not-strict : Meets Strict W → ⊥
unfolding MeetsStrict some_order right
W-not-strict m =
    clash
    (m.1.transitive 0 2 0 (in-past W m.0 1 0 2 refl refl refl (m.2 1 (2, omega arith, refl)))
    (in-past W m.0 0 2 0 refl refl refl (m.2 0 (0, omega arith, refl))))
    (m.1.irreflexive 0)

-- C with this answer of event 2: "Sample C's event 2 becomes answer `9`", and the zeros that a window once started with are wrong
abbrev pub C : List ℕ → History
C a = record {
  objects = record { kind = Window; width = 2 } ∷ [];
  events = ev 0 0 Write 4 [] ∷ ev 1 0 Write 9 [] ∷ ev 1 0 Read 0 a ∷ ev 1 0 Read 0 (4 ∷ 9 ∷ []) ∷ [];
}

pub C-converge : check (C (9 ∷ [])) (claim Converge ([] ∷ [] ∷ (1 ∷ []) ∷ (0 ∷ 1 ∷ 2 ∷ []) ∷ []) ((0 ∷ 1 ∷ 2 ∷ 3 ∷ []) ∷ [])) ≡ none
unfolding lacks_own lacks_past not_its_set against right check program_order processes
C-converge = refl

pub C-zeros : check (C (0 ∷ 9 ∷ [])) (claim Converge ([] ∷ [] ∷ (1 ∷ []) ∷ (0 ∷ 1 ∷ 2 ∷ []) ∷ []) ((0 ∷ 1 ∷ 2 ∷ 3 ∷ []) ∷ [])) ≡ some (fault16 0 2)
unfolding lacks_own lacks_past not_its_set against right check program_order processes
C-zeros = refl

abbrev pub R : History
R = record {
  objects = record { kind = Register; width = 0 } ∷ [];
  events = ev 0 0 Write 3 [] ∷ ev 1 0 Write 8 [] ∷ ev 2 0 Read 0 (3 ∷ []) ∷ ev 2 0 Read 0 (8 ∷ []) ∷ ev 2 0 Read 0 (3 ∷ []) ∷ [];
}

pub R-inside : (vs : List (List ℕ))
    → check R (claim Weak ([] ∷ [] ∷ [] ∷ (0 ∷ 1 ∷ 2 ∷ 3 ∷ []) ∷ (0 ∷ 1 ∷ 2 ∷ 3 ∷ []) ∷ []) vs) ≡ some (fault12 3)
unfolding lacks_own lacks_past not_its_set against right check program_order processes
R-inside vs = refl

abbrev pub M : History
M = record {
  objects = record { kind = Register; width = 0 } ∷ record { kind = Register; width = 0 } ∷ [];
  events = ev 0 0 Write 5 [] ∷ ev 1 0 Read 0 (5 ∷ []) ∷ ev 1 1 Write 6 [] ∷ ev 2 1 Read 0 (6 ∷ []) ∷ ev 2 0 Read 0 (0 ∷ []) ∷ [];
}

pub M-replays : Replays M (own M 2) (start M) (1 ∷ 2 ∷ 3 ∷ 4 ∷ 0 ∷ [])
unfolding right
M-replays = none-wrong M (own M 2) (start M) (1 ∷ 2 ∷ 3 ∷ 4 ∷ 0 ∷ []) refl

-- a window of width 1 that is read before anything is written to it, with this answer: it "starts empty"
abbrev pub unscanned : List ℕ → History
unscanned a = record {
  objects = record { kind = Window; width = 1 } ∷ [];
  events = ev 0 0 Read 0 a ∷ [];
}

pub window-empty : check (unscanned []) (claim Sequential [] ((0 ∷ []) ∷ [])) ≡ none
unfolding lacks_own lacks_past not_its_set against right check program_order processes
window-empty = refl

pub window-zero : check (unscanned (0 ∷ [])) (claim Sequential [] ((0 ∷ []) ∷ [])) ≡ some (fault16 0 0)
unfolding lacks_own lacks_past not_its_set against right check program_order processes
window-zero = refl

-- a window of width 2 to which 4, 9 and 7 are written before it is read, with this answer: "the last k values written .., oldest first"
abbrev pub three_scans : List ℕ → History
three_scans a = record {
  objects = record { kind = Window; width = 2 } ∷ [];
  events = ev 0 0 Write 4 [] ∷ ev 0 0 Write 9 [] ∷ ev 0 0 Write 7 [] ∷ ev 1 0 Read 0 a ∷ [];
}

pub window-last : check (three_scans (9 ∷ 7 ∷ [])) (claim Sequential [] ((0 ∷ 1 ∷ 2 ∷ 3 ∷ []) ∷ [])) ≡ none
unfolding lacks_own lacks_past not_its_set against right check program_order processes
window-last = refl

pub window-first : check (three_scans (4 ∷ 9 ∷ [])) (claim Sequential [] ((0 ∷ 1 ∷ 2 ∷ 3 ∷ []) ∷ [])) ≡ some (fault16 0 3)
unfolding lacks_own lacks_past not_its_set against right check program_order processes
window-first = refl

-- a channel of capacity 1, where processes 0 and 1 push 5 and 6, with these answers, and process 0 pops 5: it "takes one pack", and a
-- push onto the full channel "answers the pushed value"
abbrev pub one_slot : List ℕ → List ℕ → History
one_slot a b = record {
  objects = record { kind = Channel; width = 1 } ∷ [];
  events = ev 0 0 Push 5 a ∷ ev 1 0 Push 6 b ∷ ev 0 0 Pop 0 (5 ∷ []) ∷ [];
}

pub channel-sequential : check (one_slot [] (6 ∷ [])) (claim Sequential [] ((0 ∷ 1 ∷ 2 ∷ []) ∷ [])) ≡ none
unfolding lacks_own lacks_past not_its_set against right check program_order processes
channel-sequential = refl

pub channel-full : check (one_slot [] []) (claim Sequential [] ((0 ∷ 1 ∷ 2 ∷ []) ∷ [])) ≡ some (fault16 0 1)
unfolding lacks_own lacks_past not_its_set against right check program_order processes
channel-full = refl

pub channel-last : check (one_slot (5 ∷ []) (6 ∷ [])) (claim Sequential [] ((0 ∷ 1 ∷ 2 ∷ []) ∷ [])) ≡ some (fault16 0 0)
unfolding lacks_own lacks_past not_its_set against right check program_order processes
channel-last = refl

pub empty-sequential : check record { objects = []; events = [] } (claim Sequential [] ([] ∷ [])) ≡ none
unfolding lacks_own lacks_past not_its_set against right check program_order processes
empty-sequential = refl

-- source document 001's example: strict, and not sequential, since 1 and 2 are each pushed once and popped twice
abbrev pub Stack : History
Stack = record {
  objects = record { kind = kinds.Stack; width = 0 } ∷ [];
  events =
      ev 0 0 Push 1 [] ∷ ev 0 0 Push 3 [] ∷ ev 0 0 Pop 0 (3 ∷ []) ∷ ev 1 0 Pop 0 (1 ∷ []) ∷ ev 1 0 Push 2 [] ∷ ev 1 0 Pop 0 (2 ∷ [])
      ∷ ev 2 0 Pop 0 (1 ∷ []) ∷ ev 2 0 Pop 0 (2 ∷ []) ∷ [];
}

pub Stack-strict : check Stack
    (claim Strict ([] ∷ (0 ∷ []) ∷ (0 ∷ 1 ∷ []) ∷ (0 ∷ []) ∷ (0 ∷ 3 ∷ []) ∷ (0 ∷ 3 ∷ 4 ∷ []) ∷ (0 ∷ []) ∷ (0 ∷ 3 ∷ 4 ∷ 6 ∷ []) ∷ [])
    ((0 ∷ 1 ∷ 2 ∷ 3 ∷ 4 ∷ 5 ∷ 6 ∷ 7 ∷ []) ∷ (0 ∷ 3 ∷ 4 ∷ 5 ∷ 6 ∷ 7 ∷ 1 ∷ 2 ∷ []) ∷ (0 ∷ 6 ∷ 3 ∷ 4 ∷ 7 ∷ 5 ∷ 1 ∷ 2 ∷ []) ∷ [])) ≡ none
unfolding lacks_own lacks_past not_its_set against outside_past right check program_order processes
Stack-strict = refl

pub Stack-not-sequential : Meets Sequential Stack → ⊥
unfolding MeetsSequential some_order right program_order
Stack-not-sequential m = no-view Stack (program_order Stack) (λ _. true) refl m.0 m.1
