-- Laws of the places of a verdict in a lent slice. Assumes nothing.
use Rattle.std.proofs.Common.{ℕ, ◌≤◌, ◌≡◌, List, ◌++◌, length, take, drop, min, refl, sym, ap₂, ◌∙◌, arith}
use Rattle.std.proofs.Math.Nat.{min-eq_left, min-eq_right}
use Rattle.std.proofs.Math.Option.{some}
use lib.ListN.{drop_of_length-le}
use lib.Seq.{take_all}
use Rattle.layout.proofs.Cases.{by-lt}
use Rattle.certificate.specs.declared.record.Criterion.{Criterion}
use Rattle.certificate.specs.declared.record.Criterion.TheVariants.{Pram, Weak, Causal, Converge, Sequential, Strict}
use Rattle.checker.specs.WeakenText.{wanted_of}
use Rattle.interface.specs.Places.{criterion_number, placed}

-- all places are put, or the slice is full
placed-all : (all slots : List ℕ) (i : ℕ) → i ≡ length all → i ≤ length slots → take i all ++ drop i slots ≡ placed all slots
unfolding placed
placed-all all slots i q h =
    ap₂ (λ (l : List ℕ) (n : ℕ). l ++ drop n slots) (take_all i all (omega arith) ∙ sym (take_all (length slots) all (omega arith))) q

placed-full : (all slots : List ℕ) (i : ℕ) → i ≡ length slots → i ≤ length all → take i all ++ drop i slots ≡ placed all slots
unfolding placed
placed-full all slots i q h =
    ap₂ (λ (n : ℕ) (l : List ℕ). take n all ++ l) q
    (drop_of_length-le slots {i = i} (omega arith) ∙ sym (drop_of_length-le slots {i = length all} (omega arith)))

-- as many are put as there are places and slots
pub put-placed : (all slots : List ℕ) (n : ℕ) → length all ≡ 7 → n ≡ min (length slots) 7 → take n all ++ drop n slots ≡ placed all slots
put-placed all slots n seven q =
    by-lt 7 (length slots)
    (λ h. placed-all all slots n (q ∙ min-eq_right (omega (arith, h)) ∙ sym seven)
    (let e : n ≡ 7 = q ∙ min-eq_right (omega (arith, h)) in omega (arith, e, h)))
    (λ h. placed-full all slots n (q ∙ min-eq_left h) (let e : n ≡ length slots = q ∙ min-eq_left h in omega (arith, e, h, seven)))

-- the number of a criterion is the one by which it is wanted
pub number-wanted : (c : Criterion) → wanted_of (criterion_number c) ≡ some c
number-wanted Pram = refl
number-wanted Weak = refl
number-wanted Causal = refl
number-wanted Converge = refl
number-wanted Sequential = refl
number-wanted Strict = refl
