-- `read_certificate` meets its contract: the history's refusals come first. Assumes nothing.
use borrow.Author.Rules.{rules}
use Rattle.std.proofs.Common.{◌≡◌, ◌≤◌, sym, ap, subst, ◌∙◌}
use Rattle.std.proofs.lemmas.Result.{err_from_is_err_and}
use Rattle.history_reader.specs.ReadHistory.{HistoryRead, history_read}
use Rattle.history_reader.proofs.EventPlaceLaws.{few-counted}
use Rattle.history_reader.proofs.ReadLaws.{kept, failed}
use Rattle.certificate_reader.specs.declared.read.Unread.TheVariants.{NoHistory, NoCertificate}
use Rattle.certificate_reader.proofs.TwoTextLaws.{history-refused-answer, history-refused-rows, lines-refused-answer, lines-refused-rows, both-answer, both-rows}
use Rattle.certificate_reader.proofs.read.read_certificate.Goals as goal

pub returns-in_err-history : goal.returns-in_err-history
returns-in_err-history c =
    let p = err_from_is_err_and c.from_residual.result c.from_residual.ensures.1 in
    let f = failed c.read_history.result c.map_err.result _ c.in_err-history.field-0.0 c.map_err.ensures.cases c.in_err-history.was in
    let learnt = f.1.1 in
    let is : c.in_err-history.field-0.0 ≡ NoHistory f.0 = search rules in
    let q = ap history_read (sym f.1.0) ∙ c.read_history.ensures in
    rw (p.1, p.2, is) (
      history-refused-answer c.args.history.now c.args.text.now c.args.rows.now f.0 q,
      history-refused-rows c.args.history.now c.args.text.now c.args.rows.now f.0 q,
    )

pub recorded_events-requires : goal.recorded_events-requires
recorded_events-requires c =
    let k = kept c.read_history.result c.map_err.result _ c.in_ok-history.history c.map_err.ensures.cases c.in_ok-history.was in
    let q = ap history_read (sym k) ∙ c.read_history.ensures in
    subst (λ (h : HistoryRead). h.history.count ≤ 64) (sym q) (few-counted c.args.history.now)

pub returns-in_err-certificate : goal.returns-in_err-certificate
returns-in_err-certificate c =
    let k = kept c.read_history.result c.map_err.result _ c.in_ok-history.history c.map_err.ensures.cases c.in_ok-history.was in
    let q = ap history_read (sym k) ∙ c.read_history.ensures in
    let p = err_from_is_err_and c.from_residual-in_err-certificate.result c.from_residual-in_err-certificate.ensures.1 in
    let f = failed c.read_text.result c.map_err-2.result _ c.in_err-certificate.field-0.0 c.map_err-2.ensures.cases c.in_err-certificate.was in
    let learnt = f.1.1 in
    let is : c.in_err-certificate.field-0.0 ≡ NoCertificate c.in_ok-history.history f.0 = search rules in
    let w = rw (f.1.0, c.recorded_events.ensures.events) at c.read_text.ensures in
    rw (p.1, p.2, is) (
      lines-refused-answer c.args.history.now c.args.text.now c.args.rows.now c.in_ok-history.history q f.0 w.0,
      w.1 ∙ lines-refused-rows c.args.history.now c.args.text.now c.args.rows.now c.in_ok-history.history q f.0 w.0,
    )

pub returns : goal.returns
returns c =
    let k = kept c.read_history.result c.map_err.result _ c.in_ok-history.history c.map_err.ensures.cases c.in_ok-history.was in
    let q = ap history_read (sym k) ∙ c.read_history.ensures in
    let l = kept c.read_text.result c.map_err-2.result _ c.in_ok-certificate.certificate c.map_err-2.ensures.cases c.in_ok-certificate.was in
    let d = rw (l, c.recorded_events.ensures.events) at c.read_text.ensures in (
      both-answer c.args.history.now c.args.text.now c.args.rows.now c.in_ok-history.history q c.in_ok-certificate.certificate c.read_text.new.rows d,
      both-rows c.args.history.now c.args.text.now c.args.rows.now c.in_ok-history.history q c.in_ok-certificate.certificate c.read_text.new.rows d,
    )
