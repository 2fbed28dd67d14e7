-- One line of stock where updates never cross (document 02, T-11): the sequential order made of a causal order.
use Rattle.std.specs.Prelude.{Bool, true, false, not, ◌&&◌, ◌||◌, cond, List, [], ◌∷◌, ◌++◌, ℕ, zero, suc, ◌+◌, eqb}
use Rattle.std.proofs.Math.Option.{Option, none, some}
use Rattle.history.specs.declared.record.Op.{Op}
use Rattle.history.specs.declared.record.Op.TheVariants.{Write, Read, Push, Pop, Peek}
use Rattle.certificate.specs.declared.record.Criterion.TheVariants.{Sequential}
use Rattle.certificate.specs.Criteria.{has_pasts}
use Rattle.criteria.specs.Tests.{any, up_to, keep, one}
use Rattle.criteria.specs.History.{History, size, event}
use Rattle.criteria.specs.Certificate.{Certificate, order}

-- "Updates (write, push, pop), whatever their answers."
abbrev pub is_update : Op → Bool
is_update Write = true
is_update Read = false
is_update Push = true
is_update Pop = true
is_update Peek = false

abbrev pub update : History → ℕ → Bool
update h e = is_update (event h e).op

-- "A causal order that leaves two updates unordered".
unfoldable pub crosses : History → (ℕ → ℕ → Bool) → Bool
crosses h R =
    any (size h) (λ a. update h a && any (size h) (λ b. update h b && not (eqb a b) && not (R a b || R b a)))

-- How many numbers below n pass.
abbrev pub tally : ℕ → (ℕ → Bool) → ℕ
tally zero f = zero
tally (suc n) f = tally n f + one (f n)

-- How many updates are in past(e).
unfoldable pub updates_before : History → (ℕ → ℕ → Bool) → ℕ → ℕ
updates_before h R e = tally (size h) (λ f. R f e && update h f)

-- "Updates in causal order, each read or peek after the last update in its past (or first of all) and before the next update": the
-- updates have the places 1, 3, 5 .., and a read or peek has the place behind the updates of its past: 0, 2, 4 ..
unfoldable pub line_place : History → (ℕ → ℕ → Bool) → ℕ → ℕ
line_place h R e = updates_before h R e + updates_before h R e + one (update h e)

-- The first n events by their places below m, "several at one place by rising number".
abbrev pub by_place : ℕ → (ℕ → ℕ) → ℕ → List ℕ
by_place n at zero = []
by_place n at (suc m) = by_place n at m ++ keep (λ e. eqb (at e) m) (up_to n)

-- All events in one line. Of n events no place is above 2n + 1.
unfoldable pub one_line : History → (ℕ → ℕ → Bool) → List ℕ
one_line h R = by_place (size h) (line_place h R) (size h + size h + 2)

-- The sequential certificate of the line; none for "a pram or sequential certificate", which has no pasts.
unfoldable pub in_one_line : History → Certificate → Option Certificate
in_one_line h c =
    cond (has_pasts c.criterion) (some record { criterion = Sequential; pasts = []; views = one_line h (order h c) ∷ [] }) none
