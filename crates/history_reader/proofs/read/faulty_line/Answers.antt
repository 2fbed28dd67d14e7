-- `faulty_line` meets its contract: the place that a refusal names lies within the text. Assumes nothing.
use mathlib.Core.Path.{ap}
use Rattle.history_reader.specs.Place.{bytes_at}
use Rattle.history_reader.specs.ReadHistory.{HistoryRead, faulty_line}
use Rattle.history_reader.proofs.PlaceLaws.{placed-refused}
use Rattle.history_reader.proofs.read.faulty_line.Goals as goal

pub slice_bounds-result-count : goal.slice_bounds-result-count
slice_bounds-result-count c = (placed-refused c.args.text.now c.in-Err.refusal c.in-Err.ensures).from

pub slice_bounds-result-start : goal.slice_bounds-result-start
slice_bounds-result-start c = (placed-refused c.args.text.now c.in-Err.refusal c.in-Err.ensures).from

pub slice_bounds-result-end-in-Err : goal.slice_bounds-result-end-in-Err
slice_bounds-result-end-in-Err c = (placed-refused c.args.text.now c.in-Err.refusal c.in-Err.ensures).to

pub returns-in-Ok : goal.returns-in-Ok
unfolding faulty_line
returns-in-Ok c = ap (λ (h : HistoryRead). bytes_at h.place c.args.text.now) c.in-Ok.ensures

pub returns-in-Err : goal.returns-in-Err
unfolding faulty_line
returns-in-Err c = ap (λ (h : HistoryRead). bytes_at h.place c.args.text.now) c.in-Err.ensures
