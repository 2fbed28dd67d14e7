-- `from_sequential` meets its contract. Assumes nothing.
use Rattle.certificate.specs.declared.record.Criterion.TheVariants.{Sequential}
use Rattle.weakened_records.proofs.RecordLaws.{stays-record}
use Rattle.weakened_records.proofs.records.Passing.from_sequential.Goals as goal

pub returns-in-Sequential : goal.returns-in-Sequential
returns-in-Sequential c =
    stays-record c.args.self.now Sequential c.args.wanted c.requires (λ _. c.in-Sequential.is)
