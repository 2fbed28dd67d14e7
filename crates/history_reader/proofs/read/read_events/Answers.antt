-- `read_events` meets its contract: the answer for all lines is the answer for the lines that are left. Assumes nothing.
use native.Mathlib.Omega.{arith}
use borrow.Author.Rules.{rules}
use Prim.Native.Nat.{ℕ, ◌<◌, ◌-◌, ◌+◌}
use mathlib.Core.Path.{◌≡◌, sym, ap, ◌∙◌}
use mathlib.Core.List.{[]}
use lib.ListN.{length, take, drop}
use lib.Seq.{length-take-le}
use Rattle.std.specs.Prelude.{Err}
use Rattle.std.proofs.lemmas.Result.{err_from_is_err_and}
use Rattle.layout.specs.Split.{split}
use Rattle.history.specs.declared.record.History.{History}
use Rattle.history.specs.Faults.{fault_number}
use Rattle.history.specs.Record.{no_event}
use Rattle.history_reader.specs.Place.{nowhere}
use Rattle.history_reader.specs.ReadHistory.{HistoryRead, refusal, history_read, events_from}
use Rattle.history.proofs.PadLaws.{filled_none, filled-count, filled-take, filled_more}
use Rattle.history_reader.proofs.ReadLaws.{kept, failed, next-told, events-done, events-more, events-bad, event-short, event-few, history-made}
use Rattle.history_reader.proofs.read.read_events.Goals as goal

pub loop-start-init : goal.loop-start-init
loop-start-init c =
    let k : c.args.read.declared + 3 ≡ c.args.read.declared + 0 + 3 = omega arith in record {
      to = c.requires;
      filled = filled_none 64 no_event _ (rw c.no_event-events.ensures);
      says = ap (λ (n : ℕ). events_from (take c.args.read.declared c.args.read.objects) [] n c.args.read.end (split 10 (drop c.args.read.end c.args.text.now))) k;
    }

pub returns-in_err-events : goal.returns-in_err-events
returns-in_err-events c =
    let n = next-told c.args.text.now c.loop-start.start _ _ c.loop-start.invariant.to c.next_event-next.result c.next_event-next.ensures in
    let p = err_from_is_err_and c.from_residual.result c.from_residual.ensures.1 in
    let f = failed c.next_event-next.result.read c.map_err.result _ c.in_err-events.field-0.0 c.map_err.ensures.cases c.in_err-events.was in
    let l = f.1.1 in
    let refused : history_read (Err c.in_err-events.field-0.0) ≡ refusal (fault_number f.0) (c.args.read.declared + c.loop-start.count + 3) c.loop-start.start (c.loop-start.start + c.next_event-next.result.length - c.loop-start.start) = search rules in
    rw (p.1, p.2)
    (refused
    ∙ sym (c.loop-start.invariant.says
    ∙ events-bad (c.args.read.declared + c.loop-start.count + 3) c.args.text.now c.loop-start.start _ n.1 c.loop-start.invariant.to n.2 _ c.loop-start-test.true
    c.next_event-next.result.read c.loop-start.count n.0 _ (filled-count c.loop-start.invariant.filled) f.0 f.1.0))

pub bounds-events-count : goal.bounds-events-count
bounds-events-count c =
    let n = next-told c.args.text.now c.loop-start.start _ _ c.loop-start.invariant.to c.next_event-next.result c.next_event-next.ensures in
    event-few c.loop-start.count _ c.args.text.now c.loop-start.start _ n.1 c.loop-start.invariant.to c.next_event-next.result.read n.0 c.in_ok-events.field-0
    (kept c.next_event-next.result.read c.map_err.result _ c.in_ok-events.field-0 c.map_err.ensures.cases c.in_ok-events.was)

pub loop-start-preserved : goal.loop-start-preserved
loop-start-preserved c =
    let n = next-told c.args.text.now c.loop-start.start _ _ c.loop-start.invariant.to c.next_event-next.result c.next_event-next.ensures in
    let e : ℕ = c.loop-start.start + c.next_event-next.result.length in
    let v = kept c.next_event-next.result.read c.map_err.result _ c.in_ok-events.field-0 c.map_err.ensures.cases c.in_ok-events.was in
    let few : c.loop-start.count < 64 = event-few c.loop-start.count _ c.args.text.now c.loop-start.start e n.1 c.loop-start.invariant.to c.next_event-next.result.read n.0 c.in_ok-events.field-0 v in
    let short : e < length c.args.text.now = event-short c.loop-start.count _ c.args.text.now c.loop-start.start e n.1 c.loop-start.invariant.to c.next_event-next.result.read n.0 c.in_ok-events.field-0 v in
    record {
      to = omega arith;
      filled = filled_more c.loop-start.invariant.filled c.in_ok-events.field-0 few;
      says =
          rw (filled-take c.loop-start.invariant.filled c.in_ok-events.field-0 few)
          (c.loop-start.invariant.says
          ∙ events-more (c.args.read.declared + c.loop-start.count + 3) c.args.text.now c.loop-start.start e n.1 c.loop-start.invariant.to n.2 _ c.loop-start-test.true
          c.next_event-next.result.read c.loop-start.count n.0 _ (filled-count c.loop-start.invariant.filled) c.in_ok-events.field-0 _ _ v (omega arith) (omega arith));
    }

pub returns : goal.returns
returns c =
    let declared-long : length (take c.args.read.declared c.args.read.objects) ≡ c.args.read.declared = let l : length c.args.read.objects ≡ 16 = search rules in
    length-take-le c.args.read.declared c.args.read.objects (omega (arith, c.args.read.few)) in
    ap {B = HistoryRead} (λ (h : History). record { fault = 0; place = nowhere; history = h })
    (history-made c.args.read.objects c.args.read.declared c.loop-start.events c.loop-start.count c.args.read.pads declared-long c.loop-start.invariant.filled)
    ∙ sym (c.loop-start.invariant.says ∙ events-done _ _ (c.args.read.declared + c.loop-start.count + 3) c.args.text.now c.loop-start.start c.loop-start-test.false)
