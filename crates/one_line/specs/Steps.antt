-- What the steps of one line are asked, and what they find, by rows.
use Rattle.std.specs.Prelude.{ℕ, ◌+◌, ◌<◌, ◌≡◌, Bool, true, not, ◌&&◌, ◌||◌, List, eqb, get_or}
use Rattle.history.specs.declared.record.Event.{Event}
use Rattle.history.specs.declared.record.History.{History}
use Rattle.history.specs.Record.{no_event}
use Rattle.history.specs.Readable.{within}
use Rattle.certificate.specs.declared.record.Certificate.{Certificate}
use Rattle.certificate.specs.Record.{no_list}
use Rattle.certificate.specs.Criteria.{has_pasts}
use Rattle.criteria.specs.Tests.{any, one}
use Rattle.criteria.specs.OneLine.{is_update, tally}
use Rattle.orders.specs.Rows.{in_row, in_rows, ShortList}

-- A history within its limits, and a certificate with pasts, each past at most 64 numbers below 64.
pub record OrderRead (h : History) (c : Certificate) : Type 0 where
  pub history : within h ≡ true
  pub has : has_pasts c.criterion ≡ true
  pub pasts : (k : ℕ) → k < h.count → ShortList (get_or c.pasts k no_list)

-- Event e is an update.
abbrev pub update_in : List Event → ℕ → Bool
update_in events e = is_update (get_or events e no_event).op

-- By rows of an order and the row of the updates: b is an update, another event than a, and the two are unordered.
abbrev pub unordered_to : List ℕ → ℕ → ℕ → ℕ → Bool
unordered_to rows updates a b = in_row updates b && not (eqb a b) && not (in_rows rows a b || in_rows rows b a)

-- a is an update, and unordered to another one of the first n events.
abbrev pub crosses_at : List ℕ → ℕ → ℕ → ℕ → Bool
crosses_at rows updates n a = in_row updates a && any n (unordered_to rows updates a)

-- The place of event e.
abbrev pub place_in : List ℕ → ℕ → ℕ → ℕ
place_in rows updates e =
    tally 64 (λ f. in_rows rows f e && in_row updates f) + tally 64 (λ f. in_rows rows f e && in_row updates f) + one (in_row updates e)
