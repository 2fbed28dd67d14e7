-- `read_objects` meets its contract: the answer for all lines is the answer for the lines that are left. Assumes nothing.
use native.Mathlib.Omega.{arith}
use Prim.Native.Nat.{◌<◌, ◌-◌, ◌+◌}
use mathlib.Core.Path.{◌≡◌, refl, sym, ap, ◌∙◌}
use mathlib.Core.List.{List}
use lib.ListN.{length, drop}
use Rattle.std.specs.Prelude.{Err}
use borrow.Author.Rules.{rules}
use Rattle.std.proofs.lemmas.Result.{err_from_is_err_and}
use Rattle.layout.specs.Split.{split}
use Rattle.layout.proofs.SplitLaws.{part-told, part-last}
use Rattle.history.specs.declared.record.Object.{Object}
use Rattle.history.specs.Faults.{fault_number}
use Rattle.history.specs.Record.{no_object}
use Rattle.history_reader.specs.ReadHistory.{refusal, history_read, objects_from}
use Rattle.history.proofs.PadLaws.{filled_none, filled-count, filled-take, filled_more}
use Rattle.history_reader.proofs.ReadLaws.{kept, failed, objects-end, objects-heading, objects-more, objects-bad, object-few}
use Rattle.history_reader.proofs.read.read_objects.Goals as goal

pub loop-line-init : goal.loop-line-init
loop-line-init c = record { to = omega arith; filled = filled_none 16 no_object _ (rw c.no_object-objects.ensures); says = refl }

pub returns-in_default : goal.returns-in_default
returns-in_default c =
    let found = part-last 10 c.args.text.now c.loop-line.start c.loop-line.invariant.to (search rules) in
    c.loop-line.invariant.says
    ∙ objects-end (c.loop-line.declared + 2) c.args.text.now c.loop-line.start (length c.args.text.now) found c.loop-line.invariant.to (omega arith) _ (omega arith)
    ∙ sym c.refuse.ensures

pub returns-then-is_word : goal.returns-then-is_word
returns-then-is_word c =
    let p = part-told 10 c.args.text.now c.loop-line.start c.in-Some.line.now c.loop-line.invariant.to (search rules) (search rules) in
    record {
      to = omega (arith, p.1);
      says =
          c.loop-line.invariant.says
          ∙ objects-heading (c.loop-line.declared + 2) c.args.text.now c.loop-line.start _ p.0 c.loop-line.invariant.to (omega (arith, p.1)) _ p.1
          (c.loop-line.declared + 3) (omega arith) (rw p.2 at (sym c.is_word.ensures ∙ c.if-is_word.true));
    }

pub returns-in_err-objects : goal.returns-in_err-objects
returns-in_err-objects c =
    let p = part-told 10 c.args.text.now c.loop-line.start c.in-Some.line.now c.loop-line.invariant.to (search rules) (search rules) in
    let r = err_from_is_err_and c.from_residual.result c.from_residual.ensures.1 in
    let f = failed c.read_object.result c.map_err.result _ c.in_err-objects.field-0.0 c.map_err.ensures.cases c.in_err-objects.was in
    let l = f.1.1 in
    let refused : history_read (Err c.in_err-objects.field-0.0) ≡ refusal (fault_number f.0) (c.loop-line.declared + 2) c.loop-line.start (c.loop-line.start + length c.in-Some.line.now - c.loop-line.start) = search rules in
    rw (r.1, r.2)
    (c.loop-line.invariant.says
    ∙ objects-bad (c.loop-line.declared + 2) c.args.text.now c.loop-line.start _ p.0 c.loop-line.invariant.to (omega (arith, p.1)) _ p.1
    (rw p.2 at (sym c.is_word.ensures ∙ c.if-is_word.false)) c.read_object.result c.loop-line.declared (filled-count c.loop-line.invariant.filled) (rw p.2 at c.read_object.ensures) f.0 f.1.0
    ∙ sym refused)

pub bounds-objects-declared : goal.bounds-objects-declared
bounds-objects-declared c =
    object-few c.read_object.result c.in_ok-objects.field-0 c.loop-line.declared _ c.read_object.ensures
    (kept c.read_object.result c.map_err.result _ c.in_ok-objects.field-0 c.map_err.ensures.cases c.in_ok-objects.was)

pub loop-line-preserved : goal.loop-line-preserved
loop-line-preserved c =
    let p = part-told 10 c.args.text.now c.loop-line.start c.in-Some.line.now c.loop-line.invariant.to (search rules) (search rules) in
    let o = kept c.read_object.result c.map_err.result _ c.in_ok-objects.field-0 c.map_err.ensures.cases c.in_ok-objects.was in
    let few : c.loop-line.declared < 16 = object-few c.read_object.result c.in_ok-objects.field-0 c.loop-line.declared _ (rw p.2 at c.read_object.ensures) o in record {
      to = omega (arith, p.1);
      filled = filled_more c.loop-line.invariant.filled c.in_ok-objects.field-0 few;
      says =
          c.loop-line.invariant.says
          ∙ objects-more (c.loop-line.declared + 2) c.args.text.now c.loop-line.start _ p.0 c.loop-line.invariant.to (omega (arith, p.1)) _ p.1
          (rw p.2 at (sym c.is_word.ensures ∙ c.if-is_word.false)) c.read_object.result c.loop-line.declared (filled-count c.loop-line.invariant.filled) (rw p.2 at c.read_object.ensures)
          c.in_ok-objects.field-0 (c.loop-line.declared + 1 + 2) o (omega arith)
          ∙ ap (λ (os : List Object). objects_from os (c.loop-line.declared + 1 + 2) (c.loop-line.start + length c.in-Some.line.now + 1) (split 10 (drop (c.loop-line.start + length c.in-Some.line.now + 1) c.args.text.now)))
          (sym (filled-take c.loop-line.invariant.filled c.in_ok-objects.field-0 few));
    }
