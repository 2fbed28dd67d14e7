-- The third demand holds. Assumes nothing.
use Prim.Native.Nat.{ℕ, ◌≤◌, ◌<◌}
use mathlib.Core.Path.{◌≡◌, sym, ap, ◌∙◌, subst}
use mathlib.Core.Bool.{true}
use mathlib.Core.List.{List}
use mathlib.Core.Option.{some}
use lib.ListN.{length}
use Rattle.history.specs.Readable as HistoryReadable
use Rattle.history_reader.specs.ReadHistory.{HistoryRead, read_history}
use Rattle.history_theorems.proofs.Theorems.{readable-no-fault, written_read}
use Rattle.certificate.specs.declared.record.Criterion.{Criterion}
use Rattle.certificate_theorems.proofs.Theorems.{events_of}
use Rattle.criteria.specs.Criteria.{Meets}
use Rattle.criteria.specs.Weaken.{is_pair}
use Rattle.criteria.specs.Records.{history_of}
use Rattle.criteria.proofs.Meeting.{complete}
use Rattle.criteria.proofs.Weaken as OnLists
use Rattle.checker.specs.CheckText.{history_read, Accepted, Names}
use Rattle.checker.specs.MadeText.{text_of_lists, Written, Unwritten}
use Rattle.checker.specs.WeakenText.{wanted_of, weakened_text, weakened_wanted, weaken_answer, weaken_length, weaken_bytes}
use Rattle.checker.specs.Demand3.{Certified, Weakens, Demand3}
use Rattle.checker.proofs.TextTheorems.{accepted-meets, named}
use Rattle.checker.proofs.MadeLaws.{lists-bytes, made-accepted, made-names, made-written, made-too-short}
use Rattle.checker.proofs.WeakenTheorems.{weakened-bytes, weakened-accepted, weakened-pair}

-- ---- the history of a readable text is the one that it is read as
module _ (history : List ℕ) (r : HistoryReadable.Readable history) where
  history-is : (read_history history).history ≡ r.history
  history-is =
      ap (λ (t : List ℕ). (read_history t).history) (sym r.says)
      ∙ ap (λ (x : HistoryRead). x.history) (written_read r.history r.fits)

  same-history : history_read history ≡ history_of r.history
  unfolding history_read
  same-history = ap history_of history-is

  certificate-text : (w : Criterion) → Meets w (history_of r.history) → Certified history w
  certificate-text w m =
      let z = readable-no-fault history r in
      let x = complete (history_read history) w (subst (Meets w) (sym same-history) m) in
      let a : OnLists.Accepted (history_read history) w x.0 = record { named = x.1; readable = x.2; passes = x.3 } in
      record {
        text = text_of_lists (events_of history) x.0;
        bytes = lists-bytes (events_of history) x.0;
        names = made-names history z w x.0 a;
        accepted = made-accepted history z w x.0 a;
      }

module _ (history text : List ℕ) (a : Accepted history text) where
  pub meets-named : (v : Criterion) → Names history text v → Meets v (history_read history)
  meets-named v n = subst (λ (k : Criterion). Meets k (history_read history)) (named history text v n) (accepted-meets history text a)

  -- ---- weakening
  weakens-to : (v w : Criterion) → Names history text v → is_pair v w ≡ true → Weakens history text w
  weakens-to v w n p =
      let t = weakened-pair history text a w (ap (λ (k : Criterion). is_pair k w) (named history text v n) ∙ p) in
      let q = weakened-accepted history text a w t.0 t.1 in
      record {
        weakened = t.0;
        is_weakened = t.1;
        bytes = weakened-bytes history text w t.0 t.1;
        accepted = q.0;
        names = q.1;
      }

  module _ (v w : Criterion) (n : Names history text v) (wanted : ℕ) (q : wanted_of wanted ≡ some w) (t : List ℕ)
      (e : weakened_text history text w ≡ some t) (buffer : List ℕ) where
    wanted-text : weakened_wanted history text (wanted_of wanted) ≡ some t
    wanted-text = ap (weakened_wanted history text) q ∙ e

    written-to : length t ≤ length buffer
        → Written (weaken_answer history text wanted buffer) (weaken_length history text wanted buffer) (weaken_bytes history text wanted buffer) v t buffer
    unfolding weaken_answer weaken_bytes weaken_length
    written-to l = rw wanted-text (made-written history text a v n t buffer l)

    too-short-for : length buffer < length t
        → Unwritten (weaken_answer history text wanted buffer) (weaken_length history text wanted buffer) (weaken_bytes history text wanted buffer) v 18 buffer
    unfolding weaken_answer weaken_bytes weaken_length
    too-short-for l = rw wanted-text (made-too-short history text a v n t buffer l)

pub demand3 : Demand3
demand3 = record {
  meets_certified = λ history b r w m. certificate-text history r w m;
  certified_meets = λ history b r w c. subst (Meets w) (same-history history r) (meets-named history c.text c.accepted w c.names);
  weakens = weakens-to;
  written = λ history text a v w n wanted q t e buffer h. written-to history text a v w n wanted q t e buffer h;
  too_short = λ history text a v w n wanted q t e buffer h. too-short-for history text a v w n wanted q t e buffer h;
}
