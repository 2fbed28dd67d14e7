-- The weakened certificate of each pair (document 01, "Weaken").
use Rattle.std.specs.Prelude.{Bool, true, false, not, ◌&&◌, List, [], ◌∷◌, ◌++◌, ℕ, suc, ltb, get_or, take}
use Rattle.std.proofs.Math.Option.{Option, none, some}
use Rattle.certificate.specs.declared.record.Criterion.{Criterion}
use Rattle.certificate.specs.declared.record.Criterion.TheVariants.{Pram, Weak, Causal, Converge, Sequential, Strict}
use Rattle.criteria.specs.Tests.{highest, table, up_to, keep, mem, place}
use Rattle.criteria.specs.History.{History, size, process, past_with, own}
use Rattle.criteria.specs.Certificate.{Certificate, processes, view_count, order}

-- a stands before b in the view: "past(e) is what precedes e".
unfoldable pub precedes : List ℕ → ℕ → ℕ → Bool
precedes v a b = mem b v && ltb (place a v) (place b v)

-- The pasts of an order, each rising.
unfoldable pub pasts_of : ℕ → (ℕ → ℕ → Bool) → List (List ℕ)
pasts_of n R = table n (λ e. keep (λ f. R f e) (up_to n))

-- "Its part up to and with e".
unfoldable pub up_to_in : List ℕ → ℕ → List ℕ
up_to_in v e = take (suc (place e v)) v

-- "The view of the process's last event, then all other events rising".
unfoldable pub last_of : History → ℕ → ℕ
last_of h p = highest (size h) (own h p)

unfoldable pub completed : ℕ → List ℕ → List ℕ
completed n v = v ++ keep (λ f. not (mem f v)) (up_to n)

-- "Each event's view is its process's view up to and with it" (document 02, T-06).
unfoldable pub own_part : History → List (List ℕ) → ℕ → List ℕ
own_part h vs e = up_to_in (get_or vs (place (process h e) (processes h)) []) e

-- ---- the pairs
-- "Pairs: each to itself; sequential to all; converge to weak; causal to weak; causal to pram."; "from sequential to strict, from
-- strict to causal and weak, and from strict to pram" (document 02, T-06).
abbrev pub is_pair : Criterion → Criterion → Bool
is_pair Sequential w = true
is_pair Pram Pram = true
is_pair Pram Weak = false
is_pair Pram Causal = false
is_pair Pram Converge = false
is_pair Pram Sequential = false
is_pair Pram Strict = false
is_pair Weak Pram = false
is_pair Weak Weak = true
is_pair Weak Causal = false
is_pair Weak Converge = false
is_pair Weak Sequential = false
is_pair Weak Strict = false
is_pair Causal Pram = true
is_pair Causal Weak = true
is_pair Causal Causal = true
is_pair Causal Converge = false
is_pair Causal Sequential = false
is_pair Causal Strict = false
is_pair Converge Pram = false
is_pair Converge Weak = true
is_pair Converge Causal = false
is_pair Converge Converge = true
is_pair Converge Sequential = false
is_pair Converge Strict = false
is_pair Strict Pram = true
is_pair Strict Weak = true
is_pair Strict Causal = true
is_pair Strict Converge = false
is_pair Strict Sequential = false
is_pair Strict Strict = true

-- "Each to itself, text unchanged."
-- "sequential to all (past(e) is what precedes e; views are the whole order, or its part up to and with e)".
abbrev pub from_sequential : Criterion → History → Certificate → List ℕ → Option Certificate
from_sequential Sequential h c v = some c
from_sequential Pram h c v =
    some record { criterion = Pram; pasts = []; views = table (view_count Pram h) (λ _. v) }
from_sequential Weak h c v =
    some record { criterion = Weak; pasts = pasts_of (size h) (precedes v); views = table (size h) (up_to_in v) }
from_sequential Causal h c v =
    some record { criterion = Causal; pasts = pasts_of (size h) (precedes v); views = table (size h) (up_to_in v) }
from_sequential Converge h c v =
    some record { criterion = Converge; pasts = pasts_of (size h) (precedes v); views = v ∷ [] }
from_sequential Strict h c v =
    some record { criterion = Strict; pasts = pasts_of (size h) (precedes v); views = table (view_count Strict h) (λ _. v) }

-- "causal to weak (the same lists); causal to pram".
abbrev pub from_causal : Criterion → History → Certificate → Option Certificate
from_causal Sequential h c = none
from_causal Pram h c =
    some
    record {
      criterion = Pram;
      pasts = [];
      views = table (view_count Pram h) (λ k. completed (size h) (get_or c.views (last_of h (get_or (processes h) k 0)) []));
    }
from_causal Weak h c = some record { criterion = Weak; pasts = c.pasts; views = c.views }
from_causal Causal h c = some c
from_causal Converge h c = none
from_causal Strict h c = none

-- "converge to weak (cut to past(e) and e)".
abbrev pub from_converge : Criterion → History → Certificate → Option Certificate
from_converge Sequential h c = none
from_converge Pram h c = none
from_converge Weak h c =
    some
    record {
      criterion = Weak;
      pasts = c.pasts;
      views = table (size h) (λ e. keep (past_with (order h c) e) (get_or c.views 0 []));
    }
from_converge Causal h c = none
from_converge Converge h c = some c
from_converge Strict h c = none

-- Pram and weak go to themselves only.
abbrev pub from_pram : Criterion → Certificate → Option Certificate
from_pram Sequential c = none
from_pram Pram c = some c
from_pram Weak c = none
from_pram Causal c = none
from_pram Converge c = none
from_pram Strict c = none

abbrev pub from_weak : Criterion → Certificate → Option Certificate
from_weak Sequential c = none
from_weak Pram c = none
from_weak Weak c = some c
from_weak Causal c = none
from_weak Converge c = none
from_weak Strict c = none

-- "From strict to causal and weak (the same pasts; each event's view is its process's view up to and with it), and from strict to pram
-- (the same views)" (document 02, T-06).
abbrev pub from_strict : Criterion → History → Certificate → Option Certificate
from_strict Sequential h c = none
from_strict Pram h c = some record { criterion = Pram; pasts = []; views = c.views }
from_strict Weak h c = some record { criterion = Weak; pasts = c.pasts; views = table (size h) (own_part h c.views) }
from_strict Causal h c = some record { criterion = Causal; pasts = c.pasts; views = table (size h) (own_part h c.views) }
from_strict Converge h c = none
from_strict Strict h c = some c

abbrev pub weakened_from : Criterion → Criterion → History → Certificate → Option Certificate
weakened_from Sequential w h c = from_sequential w h c (get_or c.views 0 [])
weakened_from Pram w h c = from_pram w c
weakened_from Weak w h c = from_weak w c
weakened_from Causal w h c = from_causal w h c
weakened_from Converge w h c = from_converge w h c
weakened_from Strict w h c = from_strict w h c

-- The certificate that names the criterion wanted; none where the two are not a pair.
unfoldable pub weakened : Criterion → History → Certificate → Option Certificate
weakened w h c = weakened_from c.criterion w h c
