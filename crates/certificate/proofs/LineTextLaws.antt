-- The text of a line of a number and a list of events: it holds no line feed, it has no fault where the list is good, and it says that
-- list. Assumes nothing.
use Prim.Native.Nat.{ℕ, ◌<◌}
use native.Mathlib.Omega.{arith}
use mathlib.Core.Path.{◌≡◌, ap, ◌∙◌}
use mathlib.Core.Bool.{Bool, true}
use mathlib.Core.List.{List, [], ◌∷◌}
use lib.ListN.{length}
use lib.Dec.{ltb}
use borrow.Author.Tests.{ltb-true, le-leb}
use Rattle.layout.specs.Split.{split}
use Rattle.layout.specs.Number.{spell}
use Rattle.layout.specs.List.{list_text}
use Rattle.layout.proofs.Cases.{and_left, and_right}
use Rattle.layout.proofs.SplitLaws.{without, without-append, split-clean, split-append}
use Rattle.layout.proofs.WordLaws.{same_refl}
use Rattle.layout.proofs.NumberLaws.{digit_low}
use Rattle.layout.proofs.SpellLaws.{spell-without}
use Rattle.layout.proofs.ListLaws.{is-list}
use Rattle.layout.proofs.ListTextLaws.{list-without}
use Rattle.layout.proofs.RoundTrips.{Below, read-written, numbers-written}
use Rattle.history.specs.Readable.{all_less}
use Rattle.certificate.specs.Faults.{list_layout, list_limits, pair_fault, list_fault, list_said}
use Rattle.certificate.specs.CertificateText.{list_line}
use Rattle.certificate.specs.Steps.Next.{Good}

-- ---- the fields of a line
-- a list's text holds no byte below the comma, such as the space and the line feed
list-low : (b : ℕ) → b < 44 → (xs : List ℕ) → without b (list_text xs) ≡ true
list-low b low xs = list-without b (digit_low b (omega arith)) (λ e. omega arith) (λ e. omega arith) xs

line-fields : (own : ℕ) (xs : List ℕ) → split 32 (list_line own xs) ≡ spell own ∷ list_text xs ∷ []
unfolding list_line
line-fields own xs =
    split-append 32 (spell own) (list_text xs) (spell-without 32 own (digit_low 32 (omega arith)))
    ∙ ap (λ (r : List (List ℕ)). spell own ∷ r) (split-clean 32 (list_text xs) (list-low 32 (omega arith) xs))

-- the line holds no line feed
pub line-without : (own : ℕ) (xs : List ℕ) → without 10 (list_line own xs) ≡ true
unfolding list_line without
line-without own xs =
    without-append 10 (spell own) (32 ∷ list_text xs) (spell-without 10 own (digit_low 10 (omega arith))) (list-low 10 (omega arith) xs)

-- ---- written and read back
less-below : (bound : ℕ) (xs : List ℕ) → all_less bound xs ≡ true → Below bound xs
unfolding all_less Below
less-below bound [] e = tt
less-below bound (x ∷ xs) e =
    let s : Bool = ltb x bound in
    let t : Bool = all_less bound xs in
    (ltb-true x bound (and_left s t e), less-below bound xs (and_right s t e))

pair-fault : (past : Bool) (count own : ℕ) (xs : List ℕ) → Good past count xs
    → pair_fault past count own (spell own) (list_text xs) ≡ 0
unfolding pair_fault list_layout list_limits
pair-fault past count own xs g =
    let i = is-list count count (length xs) (list_text xs) (read-written count count xs g.few (less-below count xs g.small)) in
    rw (same_refl (spell own), i.numbers, i.small, i.count, le-leb (length xs) count g.few, numbers-written xs, g.order)

-- the line of a good list has no fault, and says that list
pub good-fault : (past : Bool) (count own : ℕ) (xs : List ℕ) → Good past count xs → list_fault past count own (list_line own xs) ≡ 0
unfolding list_fault
good-fault past count own xs g = rw (line-fields own xs) (pair-fault past count own xs g)

pub line-said : (own : ℕ) (xs : List ℕ) → list_said (list_line own xs) ≡ xs
unfolding list_said
line-said own xs = rw (line-fields own xs) (numbers-written xs)
