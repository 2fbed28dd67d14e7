-- The weakened text of an accepted certificate text is accepted and names the criterion wanted; to itself it is the text unchanged.
-- Assumes nothing.
use Prim.Native.Nat.{ℕ}
use mathlib.Core.Path.{◌≡◌, ap, ◌∙◌, subst}
use mathlib.Core.Bool.{true, false}
use mathlib.Core.List.{List}
use mathlib.Core.Option.{none, some}
use lib.ListN.{replicate}
use Rattle.history_reader.specs.ReadHistory.{read_history}
use Rattle.certificate.specs.declared.record.Criterion.{Criterion}
use Rattle.certificate.specs.Record.{no_row}
use Rattle.certificate.specs.CertificateText.{certificate_text}
use Rattle.certificate_theorems.proofs.Theorems.{events_of, no-fault-history, read-written}
use Rattle.criteria.specs.Weaken.{is_pair, weakened}
use Rattle.criteria.specs.Records.{certificate_of}
use Rattle.criteria.proofs.Weaken as OnLists
use Rattle.checker.specs.CheckText.{history_read, certificate_read, Accepted, Names}
use Rattle.checker.specs.MadeText.{text_of_lists, text_if_some}
use Rattle.checker.specs.WeakenText.{weakened_text}
use Rattle.checker.proofs.TextTheorems.{accepted-read, accepted-passes, few-processes-of, lists-readable}
use Rattle.checker.specs.Demand3.{Bytes}
use Rattle.checker.proofs.MadeLaws.{made_of, some-text, no_text, lists-bytes, made-accepted, made-names}

-- a weakened text is a text of bytes
pub weakened-bytes : (history given : List ℕ) (w : Criterion) (t : List ℕ) → weakened_text history given w ≡ some t → Bytes t
unfolding weakened_text
weakened-bytes history given w t e =
    let s = made_of (events_of history) (weakened w (history_read history) (certificate_read history given)) t e in
    subst Bytes s.says (lists-bytes (events_of history) s.lists)

module _ (history text : List ℕ) (a : Accepted history text) where
  z : (read_history history).fault ≡ 0
  z = no-fault-history history text (accepted-read history text a)

  -- for every pair, the weakened text is accepted and names the criterion wanted
  pub weakened-accepted : (w : Criterion) (t : List ℕ) → weakened_text history text w ≡ some t → Accepted history t × Names history t w
  unfolding weakened_text
  weakened-accepted w t e =
      let s = made_of (events_of history) (weakened w (history_read history) (certificate_read history text)) t e in
      let d = OnLists.weaken-accepted (history_read history) w (certificate_read history text) s.lists
      (few-processes-of history text a) (lists-readable history text (accepted-read history text a)) (accepted-passes history text a) s.found in
      subst (λ (u : List ℕ). Accepted history u × Names history u w) s.says
      (made-accepted history z w s.lists d, made-names history z w s.lists d)

  -- there is one exactly for the pairs
  pub weakened-pair : (w : Criterion) → is_pair (certificate_read history text).criterion w ≡ true → (t : List ℕ) × (weakened_text history text w ≡ some t)
  unfolding weakened_text
  weakened-pair w p =
      some-text (events_of history) (weakened w (history_read history) (certificate_read history text))
      (OnLists.pair-weakened w (history_read history) (certificate_read history text) ∙ p)

  pub weakened-none : (w : Criterion) → is_pair (certificate_read history text).criterion w ≡ false → weakened_text history text w ≡ none
  unfolding weakened_text
  weakened-none w p =
      no_text (events_of history) (weakened w (history_read history) (certificate_read history text))
      (OnLists.pair-weakened w (history_read history) (certificate_read history text) ∙ p)

  lists-text : text_of_lists (events_of history) (certificate_read history text) ≡ text
  unfolding certificate_read certificate_of certificate_text
  lists-text = read-written history text (accepted-read history text a) (replicate 64 no_row)

  -- to itself: the text unchanged
  pub weakened-itself : weakened_text history text (certificate_read history text).criterion ≡ some text
  unfolding weakened_text weakened
  weakened-itself =
      ap (text_if_some (events_of history)) (OnLists.weakened-itself (certificate_read history text).criterion (history_read history) (certificate_read history text))
      ∙ ap (λ (t : List ℕ). some t) lists-text
