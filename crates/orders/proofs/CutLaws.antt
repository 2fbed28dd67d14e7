-- Laws of a view that is cut down to a row. Assumes nothing.
use Prim.Native.Nat.{ℕ, ◌+◌, ◌<◌}
use native.Mathlib.Numerals.{add-one}
use mathlib.Core.Path.{◌≡◌, refl, sym, ap, ◌∙◌}
use mathlib.Core.Bool.{Bool, true, false}
use mathlib.Core.List.{List, [], ◌∷◌, ◌++◌, append-nil}
use lib.ListN.{length, get_or, take}
use Rattle.history.proofs.PadLaws.{pad-none, take-pad}
use Rattle.certificate.specs.declared.record.EventList.{EventList}
use Rattle.certificate.specs.Record.{no_list, event_list_of, entries_in}
use Rattle.criteria.specs.Tests.{keep_if, keep}
use Rattle.criteria.proofs.Loops.{keep-take-suc}

-- the list of nothing, and the entries of a list
pub nothing-listed : no_list ≡ event_list_of []
unfolding event_list_of
nothing-listed = ap {B = EventList} (λ (l : List ℕ). record { count = 0; events = l }) (sym (pad-none 64 0))

pub entries-listed : (l : EventList) (xs : List ℕ) → l ≡ event_list_of xs → entries_in l ≡ xs
unfolding event_list_of
entries-listed l xs q = ap (λ (x : EventList). take x.count x.events) q ∙ take-pad 64 0 xs

-- an entry more, which is kept or not
module _ (f : ℕ → Bool) (v : List ℕ) (i x : ℕ) (h : i < length v) (q : x ≡ get_or v i 0) where
  one_more : keep f (take (i + 1) v) ≡ keep f (take i v) ++ keep_if (f x) x []
  one_more = rw (q, add-one) (keep-take-suc f v i h)

  pub cut-kept : f x ≡ true → keep f (take i v) ++ x ∷ [] ≡ keep f (take (i + 1) v)
  cut-kept t = sym (one_more ∙ rw t refl)

  pub cut-left : f x ≡ false → keep f (take i v) ≡ keep f (take (i + 1) v)
  cut-left t = sym (one_more ∙ rw t (append-nil (keep f (take i v))))
