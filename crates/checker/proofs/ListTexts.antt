-- Lists that reading allows are those of a record within its limits, whose text is theirs. Assumes nothing.
use Prim.Native.Nat.{ℕ, zero, suc, ◌≤◌, ◌<◌}
use mathlib.Core.Path.{◌≡◌, refl, sym, ap, ap₂, ◌∙◌}
use mathlib.Core.Bool.{Bool, true, false, not, ◌||◌, false≢true}
use mathlib.Core.List.{List, [], ◌∷◌}
use lib.ListN.{length, get_or}
use lib.Dec.{eqb}
use borrow.Author.Tests.{eq-eqb, le-leb, lt-ltb}
use Rattle.history.specs.declared.record.History as WrittenHistory
use Rattle.history.specs.Record.{events_in}
use Rattle.history.specs.Readable.{all_less}
use Rattle.certificate.specs.Record.{pasts_in, views_in}
use Rattle.certificate.specs.Record as TextRecord
use Rattle.certificate.specs.Criteria as text
use Rattle.certificate.specs.Faults.{rising}
use Rattle.certificate.specs.CertificateText.{text_of, certificate_text}
use Rattle.certificate.specs.Readable.{good_lists, fits}
use Rattle.certificate.proofs.FitsLaws.{facts-fit, pasts-in, views-in}
use Rattle.criteria.specs.Tests.{mem, RisingFrom, Rising}
use Rattle.criteria.specs.History.{size}
use Rattle.criteria.specs.Certificate.{Certificate, EventsOf, Readable}
use Rattle.criteria.specs.Records.{history_of}
use Rattle.criteria.proofs.Lists.{true-or-left, true-or-right}
use Rattle.criteria.proofs.RecordLaws.{size_is, past-count, view-count}
use Rattle.checker.specs.MadeText.{text_of_lists}

less-from : (n : ℕ) (l : List ℕ) → ((e : ℕ) → mem e l ≡ true → e < n) → all_less n l ≡ true
unfolding all_less
less-from n [] f = refl
less-from n (x ∷ l) f =
    rw (lt-ltb x n (f x (true-or-left (mem x l) (eq-eqb x x refl)))) (less-from n l (λ e t. f e (true-or-right (eqb e x) t)))

rising-is : (b : ℕ) (l : List ℕ) → RisingFrom b l → rising l ≡ true
unfolding rising
rising-is b [] r = refl
rising-is b (x ∷ []) r = refl
rising-is b (x ∷ y ∷ l) r = rw (lt-ltb x y r.1.0) (rising-is (suc x) (y ∷ l) r.1)

rising-by : (past : Bool) (l : List ℕ) → (past ≡ true → Rising l) → not past || rising l ≡ true
rising-by true l f = rising-is zero l (f refl)
rising-by false l f = refl

good-from : (past : Bool) (n : ℕ) (ls : List (List ℕ)) → ((k : ℕ) → EventsOf n (get_or ls k [])) → (past ≡ true → (k : ℕ) → Rising (get_or ls k []))
    → good_lists past n ls ≡ true
unfolding good_lists
good-from past n [] f g = refl
good-from past n (l ∷ ls) f g =
    rw (le-leb (length l) n (f zero).1, less-from n l (f zero).0, rising-by past l (λ t. g t zero))
    (good-from past n ls (λ k. f (suc k)) (λ t k. g t (suc k)))

-- ---- the record of lists of a history
module _ (h : WrittenHistory.History) (few : length (events_in h) ≤ 64) (c : Certificate) (r : Readable (history_of h) c) where
  past-long : length c.pasts ≡ text.past_count c.criterion (events_in h)
  past-long = r.pasts_listed ∙ past-count c.criterion h

  view-long : length c.views ≡ length (text.view_numbers c.criterion (events_in h))
  view-long = r.views_listed ∙ view-count c.criterion h

  pub lists-fit : fits (events_in h) (TextRecord.certificate_of c.criterion c.pasts c.views) (TextRecord.rows_of c.views) ≡ true
  lists-fit =
      facts-fit c.criterion (events_in h) c.pasts c.views few past-long view-long
      (rw (size_is h) at (good-from true (size (history_of h)) c.pasts r.past (λ t. r.rising)))
      (rw (size_is h) at (good-from false (size (history_of h)) c.views r.view (λ t. absurd (false≢true t))))

  pub pasts-back : pasts_in (text.past_count c.criterion (events_in h)) (TextRecord.certificate_of c.criterion c.pasts c.views) ≡ c.pasts
  pasts-back =
      ap (λ (k : ℕ). pasts_in k (TextRecord.certificate_of c.criterion c.pasts c.views)) (sym past-long)
      ∙ pasts-in c.criterion c.pasts c.views

  pub views-back : views_in (length (text.view_numbers c.criterion (events_in h))) (TextRecord.certificate_of c.criterion c.pasts c.views) (TextRecord.rows_of c.views) ≡ c.views
  views-back =
      ap (λ (k : ℕ). views_in k (TextRecord.certificate_of c.criterion c.pasts c.views) (TextRecord.rows_of c.views)) (sym view-long)
      ∙ views-in c.criterion c.pasts c.views

  -- the text of the record is the text of the lists
  pub text-lists : certificate_text (events_in h) (TextRecord.certificate_of c.criterion c.pasts c.views) (TextRecord.rows_of c.views) ≡ text_of_lists (events_in h) c
  unfolding certificate_text TextRecord.certificate_of
  text-lists =
      ap₂ (λ (ps vs : List (List ℕ)). text_of c.criterion (text.view_numbers c.criterion (events_in h)) ps vs) pasts-back views-back
