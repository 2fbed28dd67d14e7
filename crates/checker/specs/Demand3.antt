-- The third demand, on texts. It names only definitions: readable (`history/specs/Readable`), meets (`criteria/specs/Criteria`), accepted
-- and names (`CheckText`), the pairs (`criteria/specs/Weaken`), the weakened text and what weakening answers, with its length and the buffer
-- afterwards (`WeakenText`), and what becomes of a buffer (`MadeText`).
use Rattle.std.specs.Prelude.{ℕ, ◌≤◌, ◌<◌, ◌≡◌, true, List, length}
use Rattle.std.proofs.Math.Option.{some}
use Rattle.history.specs.Readable.{all_less, Readable}
use Rattle.certificate.specs.declared.record.Criterion.{Criterion}
use Rattle.criteria.specs.Criteria.{Meets}
use Rattle.criteria.specs.Weaken.{is_pair}
use Rattle.criteria.specs.Records.{history_of}
use Rattle.checker.specs.CheckText.{Accepted, Names}
use Rattle.checker.specs.MadeText.{Written, Unwritten}
use Rattle.checker.specs.WeakenText.{wanted_of, weakened_text, weaken_answer, weaken_length, weaken_bytes}

-- A text of bytes: each is below 256.
unfoldable pub Bytes : List ℕ → Type 0
Bytes text = all_less 256 text ≡ true

-- Some certificate text of bytes names the criterion and is accepted for the history text.
pub record Certified (history : List ℕ) (w : Criterion) : Type 0 where
  pub text : List ℕ
  pub bytes : Bytes text
  pub names : Names history text w
  pub accepted : Accepted history text

-- The weakened text of an accepted certificate text, to the criterion wanted: it is a text of bytes, is accepted for the same history
-- text and names that criterion.
pub record Weakens (history text : List ℕ) (w : Criterion) : Type 0 where
  pub weakened : List ℕ
  pub is_weakened : weakened_text history text w ≡ some weakened
  pub bytes : Bytes weakened
  pub accepted : Accepted history weakened
  pub names : Names history weakened w

-- "For every readable history text and each criterion, the history meets it exactly when some certificate text that names it is
-- accepted; and weakening an accepted certificate gives, for every pair of document 01's list, a text that is accepted and names the
-- criterion wanted, written into every buffer that has room, with 18 for every other." The pairs of document 02, T-06 "join document
-- 01's list".
pub record Demand3 : Type 0 where
  pub meets_certified : (history : List ℕ) → Bytes history → (r : Readable history) (w : Criterion) → Meets w (history_of r.history)
      → Certified history w
  pub certified_meets : (history : List ℕ) → Bytes history → (r : Readable history) (w : Criterion) → Certified history w
      → Meets w (history_of r.history)
  pub weakens : (history text : List ℕ) → Accepted history text → (v w : Criterion) → Names history text v → is_pair v w ≡ true
      → Weakens history text w
  pub written : (history text : List ℕ) → Accepted history text → (v w : Criterion) → Names history text v → (wanted : ℕ) → wanted_of wanted ≡ some w
      → (weakened : List ℕ) → weakened_text history text w ≡ some weakened → (buffer : List ℕ) → length weakened ≤ length buffer
      → Written (weaken_answer history text wanted buffer) (weaken_length history text wanted buffer) (weaken_bytes history text wanted buffer) v weakened buffer
  pub too_short : (history text : List ℕ) → Accepted history text → (v w : Criterion) → Names history text v → (wanted : ℕ) → wanted_of wanted ≡ some w
      → (weakened : List ℕ) → weakened_text history text w ≡ some weakened → (buffer : List ℕ) → length buffer < length weakened
      → Unwritten (weaken_answer history text wanted buffer) (weaken_length history text wanted buffer) (weaken_bytes history text wanted buffer) v 18 buffer
