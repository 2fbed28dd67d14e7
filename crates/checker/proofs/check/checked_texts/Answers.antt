-- `checked_texts` meets its contract: what is found of the records. Assumes nothing.
use Rattle.std.proofs.Common.{ap, ◌∙◌}
use Rattle.history.proofs.WithinLaws.{within-limits}
use Rattle.faults.specs.Finding.{found_of}
use Rattle.checker.specs.CheckText.{found_in}
use Rattle.checker.proofs.VerdictLaws.{found-err}
use Rattle.checker.proofs.check.checked_texts.Goals as goal

pub found-requires : goal.found-requires
found-requires c = (within-limits c.args.read.now.history c.requires.0).declared

pub returns : goal.returns
returns c =
    c.found.ensures
    ∙ ap (found_in c.args.history.now c.args.read.now.history.declared c.args.read.now.certificate.criterion)
    (ap found_of c.err-finding.ensures.value ∙ found-err c.check_records.result ∙ c.check_records.ensures)
