-- `from_converge` meets its contract: weak has its maker. Assumes nothing.
use Rattle.certificate.specs.declared.record.Criterion.TheVariants.{Converge}
use Rattle.weakened_records.proofs.RecordLaws.{stays-record, converge-stays}
use Rattle.weakened_records.proofs.records.Passing.from_converge.Goals as goal

pub returns-in_default : goal.returns-in_default
returns-in_default c =
    stays-record c.args.self.now Converge c.args.wanted c.requires
    (converge-stays c.args.wanted c.in_default.not-Weak)
