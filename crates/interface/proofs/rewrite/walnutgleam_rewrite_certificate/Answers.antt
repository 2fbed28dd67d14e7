-- `walnutgleam_rewrite_certificate` meets its contract: the record and the rows that were read are written back as the text. Assumes nothing.
use Rattle.std.proofs.Common.{refl, sym, ap, rules, ◌∙◌}
use Rattle.history_writer.specs.WriteHistory.{written_of}
use Rattle.certificate_reader.specs.ReadCertificate.{CertificateRead}
use Rattle.checker.proofs.VerdictLaws.{unread-number, unread-fault}
use Rattle.interface.proofs.RewriteLaws.{told, refused, certificate-back}
use Rattle.interface.proofs.rewrite.walnutgleam_rewrite_certificate.Goals.{in-Ok, in-Err}
use Rattle.interface.proofs.rewrite.walnutgleam_rewrite_certificate.Goals as goal

pub returns : goal.returns
returns c =
    rw (c.give.ensures.0, c.give.ensures.1)
    (elim c.match-read_certificate.branch [
      | in-Ok w ↦
          let t = told w.write_certificate-written.result w.map.result w.map_err-answer.result _ _ w.map.ensures.cases w.map_err-answer.ensures.cases
          (λ n x p. search rules) (λ f k p. search rules) in
          rw (w.answer-is, w.buffer-is, t.0, t.1)
          (certificate-back c.args.history.now c.args.certificate.now c.args.buffer.now _ _ _ w.in-Ok.ensures.0 w.in-Ok.ensures.1 refl
          (written_of w.write_certificate-written.result) _ w.write_certificate-written.ensures.0 w.write_certificate-written.ensures.1)
      | in-Err w ↦
          rw (w.answer-is, w.buffer-is, w.from-in-Err.ensures, w.number.ensures, w.from.ensures)
          (refused c.args.certificate.now c.args.buffer.now _ _
          (unread-number w.in-Err.unread ∙ ap (λ (x : CertificateRead). x.fault) w.in-Err.ensures.0)
          (λ z. unread-fault w.in-Err.unread (sym (unread-number w.in-Err.unread) ∙ z)))
    ])
