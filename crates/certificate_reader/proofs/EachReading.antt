-- What holds of each reading of a certificate text, where it holds of lists that were read and of a refused line of the text. Assumes nothing.
use Prim.Native.Nat.{ℕ, ◌+◌, ◌≤◌}
use native.Mathlib.Omega.{arith}
use mathlib.Core.Path.{refl, ap}
use mathlib.Core.Bool.{Bool, true, false, cond, not, ◌||◌}
use mathlib.Core.List.{List, [], ◌∷◌, ◌++◌}
use lib.ListN.{length, get_or}
use lib.Dec.{eqb, leb}
use Rattle.layout.specs.Split.{split, join}
use Rattle.layout.specs.Word.{same, past_heading, view_heading}
use Rattle.layout.specs.List.{numbers_of}
use Rattle.layout.proofs.Cases.{in-either}
use Rattle.layout.proofs.SplitLaws.{join-split, join_one, join_more}
use Rattle.history.specs.declared.record.Event.{Event}
use Rattle.history.proofs.FaultLaws.{IsFault, fault_no}
use Rattle.certificate.specs.declared.record.Criterion.{Criterion}
use Rattle.certificate.specs.Criteria.{has_pasts, count_from, view_numbers, criterion_of}
use Rattle.certificate.specs.Faults.{criterion_line, rising, list_layout, list_limits, pair_fault, list_fault, list_said}
use Rattle.certificate_reader.specs.ReadCertificate.{Lines, refusal, accepted, end_from, heading_from, lists_from, views_from, pasts_from, body_from, lines_from, read_lines}

-- ---- the fault of a line of a past or of a view
first : (l m r : Bool) → IsFault (cond l (cond m (cond r 0 6) 3) 2)
first true true true = fault_no
first true true false = λ n. refl
first true false r = λ n. refl
first false m r = λ n. refl

pair : (past : Bool) (count own : ℕ) (a s : List ℕ) → IsFault (pair_fault past count own a s)
unfolding pair_fault
pair past count own a s = first (list_layout own a s) (list_limits count s) (not past || rising (numbers_of s))

two : (t : Bool) (n : ℕ) → IsFault n → IsFault (cond t n 2)
two true n f = f
two false n f = λ z. refl

fault-list : (past : Bool) (count own : ℕ) (line : List ℕ) → IsFault (list_fault past count own line)
unfolding list_fault
fault-list past count own line =
    let fs = split 32 line in
    two (eqb (length fs) 2) (pair_fault past count own (get_or fs 0 []) (get_or fs 1 []))
    (pair past count own (get_or fs 0 []) (get_or fs 1 []))

-- ---- a refused line has a place in the text, of n bytes
module _ (Q : Lines → Type 0) (n : ℕ)
    (good : (c : Criterion) (pasts views : List (List ℕ)) → Q (accepted c pasts views))
    (bad : (fault line at size : ℕ) → IsFault fault → line ≤ at + 1 → at + size ≤ n → Q (refusal fault line at size)) where
  layout : (line at size : ℕ) → line ≤ at + 1 → at + size ≤ n → Q (refusal 2 line at size)
  layout line at size = bad 2 line at size (λ z. refl)

  last : (line at : ℕ) (p : List ℕ) → line ≤ at + 1 → at + length (join 10 (p ∷ [])) ≤ n → Q (refusal 2 line at (length p))
  last line at p k h = layout line at (length p) k (omega (arith, join_one 10 p))

  -- the lines from the place `at` on stand within the text
  abbrev All : (ℕ → ℕ → List (List ℕ) → Lines) → Type 0
  All next = (line at : ℕ) (ps : List (List ℕ)) → line ≤ at + 1 → at + length (join 10 ps) ≤ n → Q (next line at ps)

  end : (r : Lines) → Q r → All (end_from r)
  unfolding end_from
  end r p line at [] k h = layout line at 0 k (omega arith)
  end r p line at (l ∷ []) k h = in-either Q (eqb (length l) 0) r (refusal 2 line at (length l)) p (last line at l k h)
  end r p line at (l ∷ q ∷ ps) k h = layout line at (length l) k (omega (arith, join_more 10 l q ps))

  headed : (heading : List ℕ) (next : ℕ → ℕ → List (List ℕ) → Lines) → All next → All (heading_from heading next)
  unfolding heading_from
  headed heading next p line at [] k h = layout line at 0 k (omega arith)
  headed heading next p line at (l ∷ []) k h = last line at l k h
  headed heading next p line at (l ∷ q ∷ ps) k h =
      in-either Q (same l heading) (next (line + 1) (at + length l + 1) (q ∷ ps)) (refusal 2 line at (length l))
      (p (line + 1) (at + length l + 1) (q ∷ ps) (omega arith) (omega (arith, join_more 10 l q ps)))
      (layout line at (length l) k (omega (arith, join_more 10 l q ps)))

  module _ (past : Bool) (count : ℕ) (next : List (List ℕ) → ℕ → ℕ → List (List ℕ) → Lines) (p : (ls : List (List ℕ)) → All (next ls)) where
    lists : (ns : List ℕ) (ls : List (List ℕ)) → All (lists_from past count next ns ls)
    unfolding lists_from
    lists [] ls line at ps k h = p ls line at ps k h
    lists (own ∷ ns) ls line at [] k h = layout line at 0 k (omega arith)
    lists (own ∷ ns) ls line at (l ∷ []) k h = last line at l k h
    lists (own ∷ ns) ls line at (l ∷ q ∷ ps) k h =
        in-either Q (eqb (list_fault past count own l) 0)
        (lists_from past count next ns (ls ++ list_said l ∷ []) (line + 1) (at + length l + 1) (q ∷ ps))
        (refusal (list_fault past count own l) line at (length l))
        (lists ns (ls ++ list_said l ∷ []) (line + 1) (at + length l + 1) (q ∷ ps) (omega arith) (omega (arith, join_more 10 l q ps)))
        (bad (list_fault past count own l) line at (length l) (fault-list past count own l) k (omega (arith, join_more 10 l q ps)))

  views : (c : Criterion) (count : ℕ) (numbers : List ℕ) (pasts : List (List ℕ)) → All (views_from c count numbers pasts)
  unfolding views_from
  views c count numbers pasts =
      headed view_heading (lists_from false count (λ (vs : List (List ℕ)). end_from (accepted c pasts vs)) numbers [])
      (lists false count (λ (vs : List (List ℕ)). end_from (accepted c pasts vs)) (λ vs. end (accepted c pasts vs) (good c pasts vs)) numbers [])

  pasts : (c : Criterion) (count : ℕ) (numbers : List ℕ) → All (pasts_from c count numbers)
  unfolding pasts_from
  pasts c count numbers =
      headed past_heading (lists_from true count (views_from c count numbers) (count_from 0 count) [])
      (lists true count (views_from c count numbers) (views c count numbers) (count_from 0 count) [])

  body : (c : Criterion) (es : List Event) → All (body_from c es)
  unfolding body_from
  body c es line at ps k h =
      in-either Q (has_pasts c) (pasts_from c (length es) (view_numbers c es) line at ps) (views_from c (length es) (view_numbers c es) [] line at ps)
      (pasts c (length es) (view_numbers c es) line at ps k h)
      (views c (length es) (view_numbers c es) [] line at ps k h)

  lines : (es : List Event) (ps : List (List ℕ)) → length (join 10 ps) ≤ n → Q (lines_from es ps)
  unfolding lines_from
  lines es [] h = layout 1 0 0 (omega arith) (omega arith)
  lines es (l ∷ []) h = last 1 0 l (omega arith) (omega (arith, h))
  lines es (l ∷ q ∷ ps) h =
      in-either Q (criterion_line l) (body_from (criterion_of (get_or (split 32 l) 1 [])) es 2 (length l + 1) (q ∷ ps)) (refusal 2 1 0 (length l))
      (body (criterion_of (get_or (split 32 l) 1 [])) es 2 (length l + 1) (q ∷ ps) (omega arith) (omega (arith, join_more 10 l q ps)))
      (layout 1 0 (length l) (omega arith) (omega (arith, join_more 10 l q ps)))

  pub each-reading : (es : List Event) (text : List ℕ) → length text ≤ n → Q (read_lines es text)
  unfolding read_lines
  each-reading es text h =
      in-either Q (leb (length text) 32768) (lines_from es (split 10 text)) (refusal 1 0 0 0)
      (lines es (split 10 text) (omega (arith, ap length (join-split 10 text))))
      (bad 1 0 0 0 (λ z. refl) (omega arith) (omega arith))
