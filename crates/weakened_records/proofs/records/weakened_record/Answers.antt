-- `weakened_record` meets its contract: pram and weak go to themselves only. Assumes nothing.
use Rattle.std.proofs.Common.{refl}
use Rattle.weakened_records.proofs.PassedLaws.{few_passed}
use Rattle.weakened_records.proofs.RecordLaws.{stays-record, others-stay}
use Rattle.weakened_records.proofs.records.weakened_record.Goals as goal

pub returns-in_default : goal.returns-in_default
returns-in_default c =
    stays-record (record { h = c.args.h; of = c.args.of; passed = c.requires; few = few_passed _ _ _ c.requires }) c.args.of.now.certificate.criterion c.args.wanted refl
    (others-stay c.args.of.now.certificate.criterion c.args.wanted c.in_default.not-Causal c.in_default.not-Converge c.in_default.not-Sequential c.in_default.not-Strict)
