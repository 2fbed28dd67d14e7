-- What a certificate record and its rows within their limits are, as one record of facts: what a reader guarantees to the layers above.
-- Assumes nothing.
use Prim.Native.Nat.{ℕ, zero, suc, ◌≤◌, ◌<◌}
use native.Mathlib.Nat.{not-suc-le-zero}
use native.Mathlib.Omega.{arith}
use mathlib.Core.Path.{◌≡◌, refl}
use mathlib.Core.Bool.{Bool, true, false, not, ◌&&◌, ◌||◌}
use mathlib.Core.List.{List, [], ◌∷◌}
use lib.ListN.{length, get_or}
use lib.Dec.{leb, ltb}
use borrow.Author.Tests.{leb-true, ltb-true}
use Rattle.layout.proofs.Cases.{and_left, and_right}
use Rattle.history.specs.declared.record.Event.{Event}
use Rattle.history.specs.Readable.{all_less}
use Rattle.certificate.specs.declared.record.Certificate.{Certificate}
use Rattle.certificate.specs.Record.{pasts_in, views_in}
use Rattle.certificate.specs.Criteria.{view_numbers, past_count}
use Rattle.certificate.specs.Faults.{rising}
use Rattle.certificate.specs.Readable.{good_lists, fits}
use Rattle.certificate.proofs.FitsLaws.{fits-facts}

-- a list of events of a history with `count` events: no more entries than events, every entry an event, and a past strictly rising
pub record SoundList (past : Bool) (count : ℕ) (xs : List ℕ) : Type 0 where
  pub few : length xs ≤ count
  pub event : (i : ℕ) → i < length xs → get_or xs i 0 < count
  pub rises : past ≡ true → rising xs ≡ true

-- the pasts and the views of a record and its rows, of a history with the events es: as many as the criterion has, and each a list
-- of events
pub record SoundCertificate (es : List Event) (c : Certificate) (rows : List (List ℕ)) : Type 0 where
  pub pasts : length (pasts_in (past_count c.criterion es) c) ≡ past_count c.criterion es
  pub views : length (views_in (length (view_numbers c.criterion es)) c rows) ≡ length (view_numbers c.criterion es)
  pub past : (e : ℕ) → e < past_count c.criterion es → SoundList true (length es) (get_or (pasts_in (past_count c.criterion es) c) e [])
  pub view : (k : ℕ) → k < length (view_numbers c.criterion es)
      → SoundList false (length es) (get_or (views_in (length (view_numbers c.criterion es)) c rows) k [])

less-at : (bound : ℕ) (xs : List ℕ) (i : ℕ) → i < length xs → all_less bound xs ≡ true → get_or xs i 0 < bound
unfolding all_less
less-at bound [] i h g = absurd (not-suc-le-zero h)
less-at bound (x ∷ xs) zero h g = ltb-true x bound (and_left (ltb x bound) (all_less bound xs) g)
less-at bound (x ∷ xs) (suc i) h g = less-at bound xs i (omega arith) (and_right (ltb x bound) (all_less bound xs) g)

rises_by : (past t : Bool) → not past || t ≡ true → past ≡ true → t ≡ true
rises_by true t g e = g
rises_by false true g e = refl
rises_by false false g e = e

sound-list : (past : Bool) (count : ℕ) (xs : List ℕ) → leb (length xs) count && all_less count xs && (not past || rising xs) ≡ true → SoundList past count xs
sound-list past count xs g =
    let a : Bool = leb (length xs) count in
    let b : Bool = all_less count xs in
    let g₂ = and_left (a && b) (not past || rising xs) g in
    record {
      few = leb-true (length xs) count (and_left a b g₂);
      event = λ i h. less-at count xs i h (and_right a b g₂);
      rises = rises_by past (rising xs) (and_right (a && b) (not past || rising xs) g);
    }

list_at : (past : Bool) (count : ℕ) (ls : List (List ℕ)) (i : ℕ) → i < length ls → good_lists past count ls ≡ true → SoundList past count (get_or ls i [])
unfolding good_lists
list_at past count [] i h g = absurd (not-suc-le-zero h)
list_at past count (l ∷ ls) zero h g =
    sound-list past count l (and_left (leb (length l) count && all_less count l && (not past || rising l)) (good_lists past count ls) g)
list_at past count (l ∷ ls) (suc i) h g =
    list_at past count ls i (omega arith)
    (and_right (leb (length l) count && all_less count l && (not past || rising l)) (good_lists past count ls) g)

pub fits-sound : (es : List Event) (c : Certificate) (rows : List (List ℕ)) → length es ≤ 64 → fits es c rows ≡ true → SoundCertificate es c rows
fits-sound es c rows few w =
    let f = fits-facts es c rows few w in
    record {
      pasts = f.past-count;
      views = f.view-count;
      past = λ e h. list_at true (length es) (pasts_in (past_count c.criterion es) c) e (omega (arith, f.past-count)) f.good-pasts;
      view = λ k h. list_at false (length es) (views_in (length (view_numbers c.criterion es)) c rows) k (omega (arith, f.view-count)) f.good-views;
    }
