-- The six criteria, each as document 01 words it, and document 02 the sixth. No certificate and no check is named here.
use Rattle.std.specs.Prelude.{◌≡◌, Bool, true, List, ℕ, ◌<◌}
use Rattle.certificate.specs.declared.record.Criterion.{Criterion}
use Rattle.certificate.specs.declared.record.Criterion.TheVariants.{Pram, Weak, Causal, Converge, Sequential, Strict}
use Rattle.criteria.specs.Tests.{keep}
use Rattle.criteria.specs.History.{History, size, process, program_order, CausalOrder, IsView, Extends, OnlyPast, is_event, past_with, only, own}
use Rattle.criteria.specs.Replay.{start, Replays}

-- v is a view of the set P that extends R, and in its replay the visible answers are right.
pub record Explains (h : History) (R : ℕ → ℕ → Bool) (P visible : ℕ → Bool) (v : List ℕ) : Type 0 where
  pub is_view : IsView P v
  pub extends : Extends R v
  pub replays : Replays h visible (start h) v

-- "sequential: some view of all events extends program order, all answers visible." (004, Definition 5.)
unfoldable pub MeetsSequential : History → Type 0
MeetsSequential h = (v : List ℕ) × Explains h (program_order h) (is_event h) (λ _. true) v

-- "pram: for each process with events, some view of all events extends program order, that process's answers visible." (004,
-- Definition 6.)
abbrev pub HasEvents : History → ℕ → Type 0
HasEvents h p = (e : ℕ) × (e < size h) × (process h e ≡ p)

unfoldable pub MeetsPram : History → Type 0
MeetsPram h = (p : ℕ) → HasEvents h p → (v : List ℕ) × Explains h (program_order h) (is_event h) (own h p) v

-- "weak: some causal order, and for each e a view of past(e) and e extending it, only e's answer visible." (004, Definition 8.)
unfoldable pub MeetsWeak : History → Type 0
MeetsWeak h =
    (R : ℕ → ℕ → Bool) × CausalOrder h R
    × ((e : ℕ) → e < size h → (v : List ℕ) × Explains h R (past_with R e) (only e) v)

-- "causal: as weak, but the answers of all events of e's process in the view are visible." (004, Definition 9.)
unfoldable pub MeetsCausal : History → Type 0
MeetsCausal h =
    (R : ℕ → ℕ → Bool) × CausalOrder h R
    × ((e : ℕ) → e < size h → (v : List ℕ) × Explains h R (past_with R e) (own h (process h e)) v)

-- "converge: some causal order and one view of all events extending it; for each e, that view cut down to past(e) and e replays
-- with only e's answer visible." (004, Definition 12.)
unfoldable pub MeetsConverge : History → Type 0
MeetsConverge h =
    (R : ℕ → ℕ → Bool) × CausalOrder h R
    × ((v : List ℕ) × IsView (is_event h) v × Extends R v
    × ((e : ℕ) → e < size h → Replays h (only e) (start h) (keep (past_with R e) v)))

-- "`strict` .. : a causal order, and for each process with events a view of all events extending it, that process's answers visible,
-- where before each event of that process only its past stands." (Document 02, T-06; source document 001, section 4.)
unfoldable pub MeetsStrict : History → Type 0
MeetsStrict h =
    (R : ℕ → ℕ → Bool) × CausalOrder h R
    × ((p : ℕ) → HasEvents h p → (v : List ℕ) × Explains h R (is_event h) (own h p) v × OnlyPast R (own h p) v)

-- "A history meets a criterion when what its line here says is so."
abbrev pub Meets : Criterion → History → Type 0
Meets Pram h = MeetsPram h
Meets Weak h = MeetsWeak h
Meets Causal h = MeetsCausal h
Meets Converge h = MeetsConverge h
Meets Sequential h = MeetsSequential h
Meets Strict h = MeetsStrict h
