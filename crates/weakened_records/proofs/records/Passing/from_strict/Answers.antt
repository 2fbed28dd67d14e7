-- `from_strict` meets its contract: each criterion wanted has its maker. Assumes nothing.
use Rattle.certificate.specs.declared.record.Criterion.TheVariants.{Strict}
use Rattle.weakened_records.proofs.RecordLaws.{stays-record, strict-stays, wanted-as}
use Rattle.weakened_records.proofs.StrictRecords.{pram-record}
use Rattle.weakened_records.proofs.records.Passing.from_strict.Goals as goal

pub returns-in-Pram : goal.returns-in-Pram
returns-in-Pram c = wanted-as _ _ _ c.in-Pram.is (pram-record c.args.self.now c.requires c.no_pasts.result c.no_pasts.ensures)

pub returns-in_default : goal.returns-in_default
returns-in_default c =
    stays-record c.args.self.now Strict c.args.wanted c.requires
    (strict-stays c.args.wanted c.in_default.not-Pram c.in_default.not-Weak c.in_default.not-Causal)
