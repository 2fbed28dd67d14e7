-- Laws of the rows of pasts. Assumes nothing.
use Prim.Native.Nat.{ℕ, ◌+◌, ◌≤◌, ◌<◌}
use native.Mathlib.Omega.{arith}
use mathlib.Core.Path.{◌≡◌, sym, ap, ◌∙◌}
use mathlib.Core.Bool.{false}
use mathlib.Core.List.{List, [], ◌∷◌, ◌++◌, map, map-append}
use lib.ListN.{length, get_or, take, set, replicate, length-replicate, length-map, length-append, get_or-replicate, get_or-append, get_or-eq_default}
use lib.Seq.{length-take-le, get_or-set_same, get_or-set_other, get_or-append-add, get_or-take}
use Rattle.std.proofs.lemmas.List.{length-take}
use Rattle.layout.proofs.Cases.{by-eq, by-lt}
use Rattle.history.proofs.PadLaws.{take_more}
use Rattle.certificate.specs.declared.record.EventList.{EventList}
use Rattle.certificate.specs.Record.{no_list, entries_in}
use Rattle.criteria.specs.Tests.{mem}
use Rattle.criteria.proofs.Loops.{any-default}
use Rattle.criteria.specs.Certificate.{listed}
use Rattle.orders.specs.Rows.{in_row, in_rows, IsOrder, ShortList}
use Rattle.orders.proofs.BitLaws.{none_in}

-- rows of nothing
pub blank-rows : (n a b : ℕ) → in_rows (replicate n 0) a b ≡ false
blank-rows n a b =
    by-lt b n
    (λ h. rw (get_or-replicate {A = ℕ} n b 0 0 h) (none_in a))
    (λ h. rw (get_or-eq_default {A = ℕ} (replicate n 0) 0 {n = b} (omega (arith, h, length-replicate {A = ℕ} n 0))) (none_in a))

-- ---- rows that are being filled
pub rows-begin : (ps : List EventList) → IsOrder (replicate 64 0) (listed (map entries_in (take 0 ps)))
rows-begin ps a b = blank-rows 64 a b

module _ (ps : List EventList) (i : ℕ) (d : EventList) (h : i < length ps) where
  before-long : length (map entries_in (take i ps)) ≡ i
  before-long = length-map (take i ps) entries_in ∙ length-take-le i ps (omega arith)

  one_more : map entries_in (take (i + 1) ps) ≡ map entries_in (take i ps) ++ entries_in (get_or ps i d) ∷ []
  one_more = ap (map entries_in) (take_more ps i d h) ∙ map-append entries_in (take i ps) (get_or ps i d ∷ [])

  -- the new list, and the others
  listed_here : (a : ℕ) → listed (map entries_in (take (i + 1) ps)) a i ≡ mem a (entries_in (get_or ps i d))
  listed_here a =
      ap (λ (ls : List (List ℕ)). mem a (get_or ls i [])) one_more
      ∙ ap (mem a)
      (ap (λ (k : ℕ). get_or (map entries_in (take i ps) ++ entries_in (get_or ps i d) ∷ []) k []) (sym before-long ∙ omega arith)
      ∙ get_or-append-add (map entries_in (take i ps)) (entries_in (get_or ps i d) ∷ []) 0 [])

  listed-there : (a b : ℕ) → (b ≡ i → ⊥) → listed (map entries_in (take (i + 1) ps)) a b ≡ listed (map entries_in (take i ps)) a b
  listed-there a b n =
      ap (λ (ls : List (List ℕ)). mem a (get_or ls b [])) one_more
      ∙ ap (mem a) (by-lt b i
      (λ l. get_or-append (map entries_in (take i ps)) (entries_in (get_or ps i d) ∷ []) [] b (omega (arith, before-long)))
      (λ l.
      get_or-eq_default (map entries_in (take i ps) ++ entries_in (get_or ps i d) ∷ []) [] {n = b}
      (omega (arith, before-long, length-append (map entries_in (take i ps)) (entries_in (get_or ps i d) ∷ []), n))
      ∙ sym (get_or-eq_default (map entries_in (take i ps)) [] {n = b} (omega (arith, before-long)))))

  pub rows_more : (rows : List ℕ) (row : ℕ) → i < length rows → IsOrder rows (listed (map entries_in (take i ps)))
      → ((a : ℕ) → in_row row a ≡ mem a (entries_in (get_or ps i d))) → IsOrder (set rows i row) (listed (map entries_in (take (i + 1) ps)))
  rows_more rows row few o s a b =
      by-eq b i
      (λ e. rw (e, get_or-set_same rows i row 0 few) (s a ∙ sym (listed_here a)))
      (λ n. rw (get_or-set_other rows i b row 0 n) (o a b ∙ sym (listed-there a b n)))

-- the entries of a past that is there
pub past_small : (ps : List EventList) (i : ℕ) (d : EventList) → i < length ps → ((k : ℕ) → k < length ps → ShortList (get_or ps k no_list))
    → (length (entries_in (get_or ps i d)) ≤ 64) × ((k : ℕ) → k < length (entries_in (get_or ps i d)) → get_or (entries_in (get_or ps i d)) k 0 < 64)
past_small ps i d h short = rw (any-default ps i d no_list h) (few, λ k l. entry k l)
  where
    it : EventList
    it = get_or ps i no_list

    few : length (entries_in it) ≤ 64
    few = let n = (short i h).few in omega (arith, length-take it.count it.events)

    entry : (k : ℕ) → k < length (entries_in it) → get_or (entries_in it) k 0 < 64
    entry k l =
        let below : k < it.count = omega (arith, length-take it.count it.events) in
        rw (get_or-take it.count it.events k 0 below) ((short i h).entries k below)

-- the first n pasts, where each of them is short
pub short-first : (ps : List EventList) (n : ℕ) → n ≤ 64 → ((k : ℕ) → k < n → ShortList (get_or ps k no_list))
    → (length (take n ps) ≤ 64) × ((k : ℕ) → k < length (take n ps) → ShortList (get_or (take n ps) k no_list))
short-first ps n few short = (
  omega (arith, length-take n ps),
  λ k l.
      let below : k < n = omega (arith, length-take n ps) in
      rw (get_or-take n ps k no_list below) (short k below),
)
