-- `walnutgleam_rewrite_history` meets its contract: the record that was read is written back as the text. Assumes nothing.
use Rattle.std.proofs.Common.{refl, ap, rules}
use Rattle.history_reader.specs.ReadHistory.{HistoryRead}
use Rattle.history_writer.specs.WriteHistory.{written_of}
use Rattle.history_reader.proofs.ReadLaws.{fault-some}
use Rattle.interface.proofs.RewriteLaws.{told, refused, history-back}
use Rattle.interface.proofs.rewrite.walnutgleam_rewrite_history.Goals.{in-Ok, in-Err}
use Rattle.interface.proofs.rewrite.walnutgleam_rewrite_history.Goals as goal

pub returns : goal.returns
returns c =
    rw (c.give.ensures.0, c.give.ensures.1)
    (elim c.match-read_history.branch [
      | in-Ok w ↦
          let t = told w.write_history.result w.map.result w.map_err-answer.result _ _ w.map.ensures.cases w.map_err-answer.ensures.cases
          (λ n x p. search rules) (λ f k p. search rules) in
          rw (w.answer-is, w.buffer-is, t.0, t.1)
          (history-back c.args.history.now c.args.buffer.now _ w.in-Ok.ensures refl (written_of w.write_history.result) _ w.write_history.ensures.0 w.write_history.ensures.1)
      | in-Err w ↦
          rw (w.answer-is, w.buffer-is, w.from.ensures, w.number.ensures)
          (refused c.args.history.now c.args.buffer.now _ _ (ap (λ (x : HistoryRead). x.fault) w.in-Err.ensures) (fault-some w.in-Err.refusal.fault))
    ])
