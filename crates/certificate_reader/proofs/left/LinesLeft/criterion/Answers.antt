-- `criterion` meets its contract: the first line names the criterion. Assumes nothing.
use mathlib.Core.Path.{◌∙◌}
use lib.ListN.{length}
use Rattle.certificate_reader.specs.ReadCertificate.{body_from}
use Rattle.certificate_reader.proofs.ReadLaws.{line-cut, lines_cut, lines-named, lines-bad}
use Rattle.certificate_reader.proofs.KeepLaws.{first-say, first-refused}
use Rattle.certificate_reader.proofs.left.LinesLeft.criterion.Goals as goal

pub returns-in_default : goal.returns-in_default
returns-in_default c = λ es. lines_cut es c.args.self.now.text.now c.in_default.ensures.1 ∙ first-refused c.args.self.now _ _ c.requires c.refuse.ensures

pub returns-in_default-read_criterion : goal.returns-in_default-read_criterion
returns-in_default-read_criterion c = λ es.
    lines-bad es c.args.self.now.text.now _ _ c.in-Some.ensures.3 _ c.read_criterion.ensures c.in_default-read_criterion.is
    ∙ first-refused c.args.self.now _ _ c.requires c.refuse-in_default-read_criterion.ensures

pub returns : goal.returns
returns c = λ es.
    lines-named es c.args.self.now.text.now _ _ (line-cut c.args.self.now.text.now _ _ c.in-Some.ensures) _ c.read_criterion.ensures
    c.in-Some-read_criterion.criterion c.in-Some-read_criterion.is
    ∙ first-say (body_from c.in-Some-read_criterion.criterion es) c.args.self.now (length c.in-Some.line.now) c.pass.new.self c.requires c.pass.ensures
