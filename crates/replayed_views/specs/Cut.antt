-- The first wrong answer of a view that is cut down to the past of an event and that event, whose answer alone is visible.
use Rattle.std.specs.Prelude.{ℕ, List}
use Rattle.std.proofs.Math.Option.{Option}
use Rattle.criteria.specs.Tests.{keep}
use Rattle.criteria.specs.History.{History, only, past_with}
use Rattle.criteria.specs.Replay.{Contents}
use Rattle.criteria.specs.Check.{first_wrong}
use Rattle.orders.specs.Rows.{in_rows}

abbrev pub wrong_cut : History → Contents → List ℕ → List ℕ → ℕ → Option ℕ
wrong_cut h s rows v e = first_wrong h (only e) s (keep (past_with (in_rows rows) e) v)
