-- Certificates as lists, and what a certificate of each criterion is to list (document 01, "Certificate text").
use Rattle.std.specs.Prelude.{Bool, true, false, cond, List, [], ℕ, ◌≤◌, ◌<◌, ◌≡◌, length, get_or}
use Rattle.certificate.specs.declared.record.Criterion.{Criterion}
use Rattle.certificate.specs.declared.record.Criterion.TheVariants.{Pram, Weak, Causal, Converge, Sequential, Strict}
use Rattle.certificate.specs.Criteria.{has_pasts}
use Rattle.criteria.specs.Tests.{any, keep, up_to, mem, Rising}
use Rattle.criteria.specs.History.{History, size, process, program_order, is_event, past_with, only, own}

-- The criterion that it names, the past of each event where the criterion has pasts, and the views in the order of their lines.
pub record Certificate : Type 0 where
  pub criterion : Criterion
  pub pasts : List (List ℕ)
  pub views : List (List ℕ)

-- ---- what a certificate of each criterion has
-- The processes with events, rising.
abbrev pub active : History → ℕ → Bool
active h p = any (size h) (own h p)

unfoldable pub processes : History → List ℕ
processes h = keep (active h) (up_to 8)

-- How many pasts, and how many views: "sequential and converge have the one view 0; pram one for each process with events; weak and
-- causal one an event"; strict "has pasts and pram's views" (document 02, T-06).
abbrev pub past_count : Criterion → History → ℕ
past_count w h = cond (has_pasts w) (size h) 0

abbrev pub view_count : Criterion → History → ℕ
view_count Pram h = length (processes h)
view_count Weak h = size h
view_count Causal h = size h
view_count Converge h = 1
view_count Sequential h = 1
view_count Strict h = length (processes h)

-- The number of view k. "An event number and a process number are two quantities, also where both number views."
abbrev pub view_number : Criterion → History → ℕ → ℕ
view_number Pram h k = get_or (processes h) k 0
view_number Weak h k = k
view_number Causal h k = k
view_number Converge h k = 0
view_number Sequential h k = 0
view_number Strict h k = get_or (processes h) k 0

-- The set whose view k is: all events, or past(e) and e.
abbrev pub view_set : Criterion → History → (ℕ → ℕ → Bool) → ℕ → ℕ → Bool
view_set Pram h R k = is_event h
view_set Weak h R k = past_with R k
view_set Causal h R k = past_with R k
view_set Converge h R k = is_event h
view_set Sequential h R k = is_event h
view_set Strict h R k = is_event h

abbrev pub is_strict : Criterion → Bool
is_strict Pram = false
is_strict Weak = false
is_strict Causal = false
is_strict Converge = false
is_strict Sequential = false
is_strict Strict = true

-- In how many views only its past may stand before an own event: in those of strict.
abbrev pub strict_count : Criterion → History → ℕ
strict_count w h = cond (is_strict w) (view_count w h) 0

-- ---- replays
-- One a view, and for converge one an event; the events of replay k, its visible answers, and the number of its view.
abbrev pub replay_count : Criterion → History → ℕ
replay_count Pram h = length (processes h)
replay_count Weak h = size h
replay_count Causal h = size h
replay_count Converge h = size h
replay_count Sequential h = 1
replay_count Strict h = length (processes h)

abbrev pub replayed : Criterion → (ℕ → ℕ → Bool) → List (List ℕ) → ℕ → List ℕ
replayed Pram R vs k = get_or vs k []
replayed Weak R vs k = get_or vs k []
replayed Causal R vs k = get_or vs k []
replayed Converge R vs k = keep (past_with R k) (get_or vs 0 [])
replayed Sequential R vs k = get_or vs k []
replayed Strict R vs k = get_or vs k []

abbrev pub visible : Criterion → History → ℕ → ℕ → Bool
visible Pram h k = own h (get_or (processes h) k 0)
visible Weak h k = only k
visible Causal h k = own h (process h k)
visible Converge h k = only k
visible Sequential h k = λ _. true
visible Strict h k = own h (get_or (processes h) k 0)

-- ---- the order that a certificate stands for: that of its pasts, or program order where the criterion has none
abbrev pub listed : List (List ℕ) → ℕ → ℕ → Bool
listed ps a b = mem a (get_or ps b [])

abbrev pub order_by : Bool → History → List (List ℕ) → ℕ → ℕ → Bool
order_by true h ps = listed ps
order_by false h ps = program_order h

abbrev pub order : History → Certificate → ℕ → ℕ → Bool
order h c = order_by (has_pasts c.criterion) h c.pasts

-- ---- what reading guarantees of a certificate of a history
abbrev pub EventsOf : ℕ → List ℕ → Type 0
EventsOf n l = ((e : ℕ) → mem e l ≡ true → e < n) × (length l ≤ n)

pub record Readable (h : History) (c : Certificate) : Type 0 where
  pub pasts_listed : length c.pasts ≡ past_count c.criterion h
  pub views_listed : length c.views ≡ view_count c.criterion h
  pub past : (k : ℕ) → EventsOf (size h) (get_or c.pasts k [])
  pub view : (k : ℕ) → EventsOf (size h) (get_or c.views k [])
  pub rising : (k : ℕ) → Rising (get_or c.pasts k [])
