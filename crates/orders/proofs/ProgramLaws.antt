-- Laws of the rows of program order. Assumes nothing.
use Prim.Native.Nat.{ℕ, ◌+◌, ◌<◌}
use native.Mathlib.Omega.{arith}
use mathlib.Core.Path.{◌≡◌, refl, sym, ◌∙◌}
use mathlib.Core.Bool.{Bool, true, false, ◌&&◌, or-true, or-false}
use mathlib.Core.List.{List, [], map}
use mathlib.Core.Option.{some}
use lib.ListN.{length, get_or, set, replicate, get_or-map}
use lib.Seq.{get_or-set_same, get_or-set_other}
use lib.Dec.{eqb, ltb}
use borrow.Author.Tests.{eq-eqb, ne_eqb, lt-ltb, le-ltb}
use Rattle.layout.proofs.Cases.{by-eq, by-lt}
use Rattle.history.specs.declared.record.Op.TheVariants.{Read}
use Rattle.criteria.proofs.Lists.{at_head}
use Rattle.criteria.specs.History.{Event, History, size, process, program_order}
use Rattle.orders.specs.Rows.{in_row, IsOrder, program_in}
use Rattle.orders.proofs.ListedLaws.{blank-rows}
use Rattle.orders.proofs.ViewLaws.{More}

-- ---- the events so far, by their processes
-- Row p holds the events below i of process p.
abbrev pub Earlier : List ℕ → ℕ → List ℕ → Type 0
Earlier ps i earlier = (p : ℕ) → p < 8 → (a : ℕ) → in_row (get_or earlier p 0) a ≡ (ltb a i && eqb (get_or ps a 0) p)

pub earlier-begins : (ps : List ℕ) → Earlier ps 0 (replicate 8 0)
earlier-begins ps p l a = blank-rows 8 a p ∙ sym (rw (le-ltb a 0 (omega arith)) refl)

module _ (ps : List ℕ) (i : ℕ) (earlier : List ℕ) (row' : ℕ) (long : length earlier ≡ 8) (p : ℕ) (its : get_or ps i 0 ≡ p) (few : p < 8)
    (more : More (get_or earlier p 0) i row') (s : Earlier ps i earlier) where
  -- an event below i + 1 that is not i is below i
  below-same : (a : ℕ) → (a ≡ i → ⊥) → ltb a i ≡ ltb a (i + 1)
  below-same a n =
      by-lt a i (λ l. rw (lt-ltb a i l, lt-ltb a (i + 1) (omega arith))) (λ l. rw (le-ltb a i l, le-ltb a (i + 1) (omega (arith, n))))

  own_row : (a : ℕ) → in_row row' a ≡ (ltb a (i + 1) && eqb (get_or ps a 0) p)
  own_row a =
      more a ∙ at_head a i
      (λ t q. rw (t, q, lt-ltb i (i + 1) (omega arith), eq-eqb (get_or ps i 0) p its) (or-true (in_row (get_or earlier p 0) i)))
      (λ t n. rw t (or-false (in_row (get_or earlier p 0) a)) ∙ s p few a ∙ rw (below-same a n))

  other_row : (q : ℕ) → q < 8 → (q ≡ p → ⊥) → (a : ℕ) → in_row (get_or earlier q 0) a ≡ (ltb a (i + 1) && eqb (get_or ps a 0) q)
  other_row q l n a =
      s q l a ∙ at_head a i
      (λ t e. rw (e, le-ltb i i (omega arith), lt-ltb i (i + 1) (omega arith)) (sym (ne_eqb (get_or ps i 0) q (λ z. n (sym z ∙ its)))))
      (λ t m. rw (below-same a m))

  pub earlier_more : Earlier ps (i + 1) (set earlier p row')
  earlier_more q l a =
      by-eq q p
      (λ e. rw (e, get_or-set_same earlier p row' 0 (omega (arith, long))) (own_row a))
      (λ n. rw (get_or-set_other earlier p q row' 0 n) (other_row q l n a))

-- ---- rows that are being filled
no-and : (t u : Bool) → (t && false && u) ≡ false
no-and true u = refl
no-and false u = refl

none_before : (ps : List ℕ) (a b : ℕ) → program_in 0 ps a b ≡ false
none_before ps a b = rw (le-ltb b 0 (omega arith)) (no-and (ltb a b) (eqb (get_or ps a 0) (get_or ps b 0)))

pub program-begins : (ps : List ℕ) → IsOrder (replicate 64 0) (program_in 0 ps)
program-begins ps a b = blank-rows 64 a b ∙ sym (none_before ps a b)

pub program-more : (ps : List ℕ) (i : ℕ) (rows : List ℕ) (row : ℕ) → i < length rows → IsOrder rows (program_in i ps)
    → ((a : ℕ) → in_row row a ≡ (ltb a i && eqb (get_or ps a 0) (get_or ps i 0))) → IsOrder (set rows i row) (program_in (i + 1) ps)
program-more ps i rows row h o s a b =
    by-eq b i
    (λ e. rw (e, get_or-set_same rows i row 0 h, lt-ltb i (i + 1) (omega arith)) (s a ∙ and-true (ltb a i) (eqb (get_or ps a 0) (get_or ps i 0))))
    (λ n. rw (get_or-set_other rows i b row 0 n)
    (o a b ∙ by-lt b i
    (λ l. rw (lt-ltb b i l, lt-ltb b (i + 1) (omega arith)))
    (λ l. rw (le-ltb b i l, le-ltb b (i + 1) (omega (arith, n))))))
  where
    and-true : (t u : Bool) → (t && u) ≡ (t && true && u)
    and-true true u = refl
    and-true false u = refl

-- ---- program order of a history is that of its processes
process-at : (h : History) (e : ℕ) → get_or (map (λ (x : Event). x.process) h.events) e 0 ≡ process h e
process-at h e = get_or-map (λ (x : Event). x.process) h.events e record { process = 0; object = 0; op = Read; value = 0; answer = some [] }

pub program-is : (h : History) (a b : ℕ) → program_order h a b ≡ program_in (size h) (map (λ (x : Event). x.process) h.events) a b
unfolding program_order
program-is h a b = rw (process-at h a, process-at h b)
