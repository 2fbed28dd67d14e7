-- `from_causal` meets its contract: each criterion wanted has its maker. Assumes nothing.
use Rattle.certificate.specs.declared.record.Criterion.TheVariants.{Causal}
use Rattle.weakened_records.proofs.RecordLaws.{stays-record, causal-stays, wanted-as}
use Rattle.weakened_records.proofs.CausalRecords.{weak-record}
use Rattle.weakened_records.proofs.records.Passing.from_causal.Goals as goal

pub returns-in-Weak : goal.returns-in-Weak
returns-in-Weak c = wanted-as _ _ _ c.in-Weak.is (weak-record c.args.self.now c.requires)

pub returns-in_default : goal.returns-in_default
returns-in_default c =
    stays-record c.args.self.now Causal c.args.wanted c.requires
    (causal-stays c.args.wanted c.in_default.not-Pram c.in_default.not-Weak)
