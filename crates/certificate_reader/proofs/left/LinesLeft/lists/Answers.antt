-- `lists` meets its contract: what the lines say is what those that are left say, after the lists that are kept. Assumes nothing.
use native.Mathlib.Omega.{arith}
use borrow.Author.Rules.{rules}
use Prim.Native.Nat.{ℕ}
use mathlib.Core.Path.{◌≡◌, sym, ap, ◌∙◌}
use lib.ListN.{get_or}
use Rattle.std.proofs.lemmas.Result.{err_from_is_err_and}
use Rattle.history.specs.Faults.{fault_number}
use Rattle.history_reader.proofs.ReadLaws.{kept, failed}
use Rattle.certificate.specs.Steps.Lists.{is_past, list_line_of}
use Rattle.certificate.specs.Steps.Next.{next_read}
use Rattle.certificate_reader.specs.ReadCertificate.{refusal}
use Rattle.certificate_reader.specs.Steps.Lines.{refused}
use Rattle.certificate_reader.proofs.KeepLaws.{reading-begins, reading-ends, reading-bad, reading-short, reading-more}
use Rattle.certificate_reader.proofs.left.LinesLeft.lists.Goals as goal

pub loop-i-init : goal.loop-i-init
loop-i-init c = reading-begins (is_past c.args.part.sort) c.args.part.count c.args.numbers.now c.args.self.now _ (rw c.no_list-lists.ensures)

pub returns-in_err-lists : goal.returns-in_err-lists
returns-in_err-lists c =
    let p = err_from_is_err_and c.from_residual.result c.from_residual.ensures.1 in
    let f = failed c.next_list-next.result.read c.map_err.result _ c.in_err-lists.field-0.0 c.map_err.ensures.cases c.in_err-lists.was in
    let l = f.1.1 in
    let refused : refused c.in_err-lists.field-0.0 ≡ refusal (fault_number f.0) c.loop-i.self.line c.loop-i.self.start c.next_list-next.result.length = search rules in
    let same_line : list_line_of c.next_list-next.result.read ≡ next_read (is_past c.args.part.sort) c.args.part.count (get_or c.args.numbers.now c.loop-i.i 0) c.loop-i.self.text.now =
    c.next_list-next.ensures.0 ∙ ap (λ (n : ℕ). next_read (is_past c.args.part.sort) c.args.part.count n c.loop-i.self.text.now) c.from.ensures in
    rw (p.1, p.2)
    (λ next.
    reading-bad (is_past c.args.part.sort) c.args.part.count c.args.numbers.now c.args.self.now c.loop-i.invariant c.loop-i-test.true c.next_list-next.result.length c.next_list-next.result.read same_line c.next_list-next.ensures.1
    f.0 f.1.0 next
    ∙ sym refused)

pub pass-requires : goal.pass-requires
pass-requires c =
    let same_line : list_line_of c.next_list-next.result.read ≡ next_read (is_past c.args.part.sort) c.args.part.count (get_or c.args.numbers.now c.loop-i.i 0) c.loop-i.self.text.now =
    c.next_list-next.ensures.0 ∙ ap (λ (n : ℕ). next_read (is_past c.args.part.sort) c.args.part.count n c.loop-i.self.text.now) c.from.ensures in
    reading-short (is_past c.args.part.sort) c.args.part.count c.args.numbers.now c.args.self.now c.loop-i.invariant c.loop-i-test.true c.next_list-next.result.length c.next_list-next.result.read same_line c.next_list-next.ensures.1
    c.in_ok-lists.field-0 (kept c.next_list-next.result.read c.map_err.result _ c.in_ok-lists.field-0 c.map_err.ensures.cases c.in_ok-lists.was)

pub loop-i-preserved : goal.loop-i-preserved
loop-i-preserved c =
    let same_line : list_line_of c.next_list-next.result.read ≡ next_read (is_past c.args.part.sort) c.args.part.count (get_or c.args.numbers.now c.loop-i.i 0) c.loop-i.self.text.now =
    c.next_list-next.ensures.0 ∙ ap (λ (n : ℕ). next_read (is_past c.args.part.sort) c.args.part.count n c.loop-i.self.text.now) c.from.ensures in
    reading-more (is_past c.args.part.sort) c.args.part.count c.args.numbers.now c.args.self.now c.loop-i.invariant c.loop-i-test.true c.next_list-next.result.length c.next_list-next.result.read same_line c.next_list-next.ensures.1
    c.in_ok-lists.field-0 (kept c.next_list-next.result.read c.map_err.result _ c.in_ok-lists.field-0 c.map_err.ensures.cases c.in_ok-lists.was) c.args.part.few
    (omega (arith, c.loop-i-test.true, c.requires)) c.pass.new.self c.pass.ensures

pub returns : goal.returns
returns c = reading-ends (is_past c.args.part.sort) c.args.part.count c.args.numbers.now c.args.self.now c.loop-i.invariant c.loop-i-test.false
