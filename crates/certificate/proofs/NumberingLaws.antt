-- Laws of the numbers of the views. Assumes nothing.
use Prim.Native.Nat.{ℕ, zero, suc, ◌+◌, ◌-◌, ◌≤◌, ◌<◌}
use native.Mathlib.Nat.{add-zero, not-suc-le-zero}
use native.Mathlib.Numerals.{add-one}
use native.Mathlib.Omega.{arith}
use mathlib.Core.Logic.{◌⊎◌, inl, inr}
use mathlib.Core.Path.{◌≡◌, refl, sym, ap, ap₂, ◌∙◌}
use mathlib.Core.Bool.{Bool, true, false, ◌||◌}
use mathlib.Core.List.{List, [], ◌∷◌, ◌++◌, append_assoc, append-nil}
use lib.ListN.{length, get_or, take, set, length-append}
use lib.Dec.{eqb}
use Rattle.std.specs.List.{list_any}
use Rattle.layout.proofs.Cases.{by_bool}
use Rattle.history.specs.declared.record.Event.{Event}
use Rattle.history.specs.Record.{pad}
use Rattle.history.proofs.PadLaws.{take-pad, pad-set}
use Rattle.certificate.specs.declared.record.Criterion.{Criterion}
use Rattle.certificate.specs.declared.record.Criterion.TheVariants.{Pram, Weak, Causal, Converge, Sequential, Strict}
use Rattle.certificate.specs.declared.numbers.ViewNumbers.{ViewNumbers}
use Rattle.certificate.specs.Criteria.{count_from, has_events, processes_from, view_numbers}
use Rattle.certificate.specs.Steps.Numbers.{view_numbers_of}

-- ---- whether some event is of the process p
pub any-has : (p : ℕ) (es : List Event) → list_any (λ (e : Event). eqb e.process.0 p) es ≡ has_events p es
unfolding has_events
any-has p [] = refl
any-has p (e ∷ es) = ap (λ (t : Bool). eqb e.process.0 p || t) (any-has p es)

-- ---- numbers in an array
-- one number more, behind the n that an array holds
pub pad-more : (n : ℕ) (ys xs : List ℕ) (v : ℕ) → n < 64 → n ≡ length xs → ys ≡ pad 64 0 xs
    → (n + 1 ≡ length (xs ++ v ∷ [])) × (set ys n v ≡ pad 64 0 (xs ++ v ∷ []))
pad-more n ys xs v room long is = (omega (arith, length-append xs (v ∷ [])), rw is (pad-set 64 0 xs n v long room))

pub numbers-pushed : (x : ViewNumbers) (ns : List ℕ) (v : ℕ) → x.count < 64 → x ≡ view_numbers_of ns
    → ◌≡◌ {A = ViewNumbers} (record { count = x.count + 1; numbers = set x.numbers x.count v }) (view_numbers_of (ns ++ v ∷ []))
unfolding view_numbers_of
numbers-pushed x ns v room is =
    let m = pad-more x.count x.numbers ns v room (ap (λ (t : ViewNumbers). t.count) is) (ap (λ (t : ViewNumbers). t.numbers) is) in rw (m.0, m.1)

-- the numbers that are in their array
pub numbers-in : (x : ViewNumbers) (ns : List ℕ) → x ≡ view_numbers_of ns → take x.count x.numbers ≡ ns
unfolding view_numbers_of
numbers-in x ns q = rw q (take-pad 64 0 ns)

-- ---- the first events, one more at a time
count-suc : (k n : ℕ) → count_from k (suc n) ≡ count_from k n ++ (k + n) ∷ []
unfolding count_from
count-suc k zero = rw (add-zero k)
count-suc k (suc n) =
    let m : k + 1 + n ≡ k + suc n = omega arith in
    ap (λ (l : List ℕ). k ∷ l) (count-suc (k + 1) n ∙ ap (λ (j : ℕ). count_from (k + 1) n ++ j ∷ []) m)

count-more : (k n : ℕ) → count_from k (n + 1) ≡ count_from k n ++ (k + n) ∷ []
count-more k n = rw (add-one n) (count-suc k n)

pub count_long : (k n : ℕ) → length (count_from k n) ≡ n
unfolding count_from
count_long k zero = refl
count_long k (suc n) = ap suc (count_long (k + 1) n)

pub count_at : (k n i d : ℕ) → i < n → get_or (count_from k n) i d ≡ k + i
unfolding count_from
count_at k zero i d h = absurd (not-suc-le-zero h)
count_at k (suc n) zero d h = omega arith
count_at k (suc n) (suc i) d h = count_at (k + 1) n i d (omega arith) ∙ omega arith

-- how many numbers there are
pub counted : (x : ViewNumbers) (ns : List ℕ) → x ≡ view_numbers_of ns → x.count ≡ length ns
unfolding view_numbers_of
counted x ns is = ap (λ (t : ViewNumbers). t.count) is

pub event-room : (x : ViewNumbers) (i : ℕ) → x ≡ view_numbers_of (count_from 0 i) → i < 64 → x.count < 64
event-room x i is h = omega (arith, counted x (count_from 0 i) is, count_long 0 i)

pub event-more : (x : ViewNumbers) (i v : ℕ) → v ≡ i → x ≡ view_numbers_of (count_from 0 i ++ v ∷ []) → x ≡ view_numbers_of (count_from 0 (i + 1))
event-more x i v e is =
    let k : v ≡ 0 + i = omega (arith, e) in
    is ∙ ap view_numbers_of (ap (λ (k : ℕ). count_from 0 i ++ k ∷ []) k ∙ sym (count-more 0 i))

-- ---- the processes with events, one more at a time
module _ (es : List Event) (p n : ℕ) (h : 0 < n) where
  process-in : has_events p es ≡ true → processes_from es p n ≡ p ∷ processes_from es (p + 1) (n - 1)
  unfolding processes_from
  process-in e = let k : n ≡ suc (n - 1) = omega arith in ap (processes_from es p) k ∙ rw e

  process-out : has_events p es ≡ false → processes_from es p n ≡ processes_from es (p + 1) (n - 1)
  unfolding processes_from
  process-out e = let k : n ≡ suc (n - 1) = omega arith in ap (processes_from es p) k ∙ rw e

processes-few : (es : List Event) (p n : ℕ) → length (processes_from es p n) ≤ n
unfolding processes_from
processes-few es p zero = omega arith
processes-few es p (suc n) =
    let ih = processes-few es (p + 1) n in
    by_bool (has_events p es) (λ e. rw e (omega (arith, ih))) (λ e. rw e (omega (arith, ih)))

-- the numbers are the processes before p with events
pub record Gathered (es : List Event) (x : ViewNumbers) (p : ℕ) : Type 0 where
  pub ns : List ℕ
  pub is : x ≡ view_numbers_of ns
  pub few : length ns ≤ p
  pub low : p ≤ 8
  pub are : processes_from es 0 8 ≡ ns ++ processes_from es p (8 - p)

pub gathered_none : (es : List Event) (x : ViewNumbers) → x ≡ view_numbers_of [] → Gathered es x 0
gathered_none es x e = record { ns = []; is = e; few = omega arith; low = omega arith; are = refl }

module _ {es : List Event} {x : ViewNumbers} {p : ℕ} (g : Gathered es x p) where
  pub gathered-room : p < 8 → x.count < 64
  gathered-room h = omega (arith, counted x g.ns g.is, g.few)

  module _ (h : p < 8) where
    less : 8 - p - 1 ≡ 8 - (p + 1)
    less = omega arith

    pub gathered-in : (y : ViewNumbers) (v : ℕ) → v ≡ p → has_events p es ≡ true
        → ((ns : List ℕ) → x ≡ view_numbers_of ns → y ≡ view_numbers_of (ns ++ v ∷ [])) → Gathered es y (p + 1)
    gathered-in y v q e pushed = record {
      ns = g.ns ++ v ∷ [];
      is = pushed g.ns g.is;
      few = omega (arith, g.few, length-append g.ns (v ∷ []));
      low = omega arith;
      are =
          g.are
          ∙ ap (λ (l : List ℕ). g.ns ++ l)
          (process-in es p (8 - p) (omega arith) e
          ∙ ap₂ {C = List ℕ} (λ (x m : ℕ). x ∷ processes_from es (p + 1) m) (sym q) less)
          ∙ sym (append_assoc g.ns (v ∷ []) (processes_from es (p + 1) (8 - (p + 1))));
    }

    pub gathered-out : has_events p es ≡ false → Gathered es x (p + 1)
    gathered-out e = record {
      ns = g.ns;
      is = g.is;
      few = omega (arith, g.few);
      low = omega arith;
      are =
          g.are
          ∙ ap (λ (l : List ℕ). g.ns ++ l)
          (process-out es p (8 - p) (omega arith) e ∙ ap (processes_from es (p + 1)) less);
    }

  pub gathered-all : 8 ≤ p → x ≡ view_numbers_of (processes_from es 0 8)
  unfolding processes_from
  gathered-all h =
      let k : 8 - p ≡ 0 = omega arith in
      g.is ∙ ap view_numbers_of (sym (g.are ∙ ap (λ (m : ℕ). g.ns ++ processes_from es p m) k ∙ append-nil g.ns))

-- ---- the numbers of a criterion, at most 64
pub numbers-few : (c : Criterion) (es : List Event) → length es ≤ 64 → length (view_numbers c es) ≤ 64
unfolding view_numbers
numbers-few Pram es h = omega (arith, processes-few es 0 8)
numbers-few Weak es h = omega (arith, count_long 0 (length es))
numbers-few Causal es h = omega (arith, count_long 0 (length es))
numbers-few Converge es h = omega arith
numbers-few Sequential es h = omega arith
numbers-few Strict es h = omega (arith, processes-few es 0 8)

-- one of two criteria with the same numbers
pub views-are : (c a b : Criterion) (es : List Event) (r : ViewNumbers) (ns : List ℕ) → length es ≤ 64 → (c ≡ a) ⊎ (c ≡ b)
    → view_numbers a es ≡ ns → view_numbers b es ≡ ns → r ≡ view_numbers_of ns → (r ≡ view_numbers_of (view_numbers c es)) × (r.count ≤ 64)
unfolding view_numbers_of
views-are c a b es r ns few one p q e =
    let t : view_numbers c es ≡ ns =
    elim one [ inl h ↦ ap (λ (x : Criterion). view_numbers x es) h ∙ p | inr h ↦ ap (λ (x : Criterion). view_numbers x es) h ∙ q ] in
    let l : r.count ≡ length ns = ap (λ (v : ViewNumbers). v.count) e in
    (e ∙ ap view_numbers_of (sym t), omega (arith, numbers-few c es few, ap length t))
