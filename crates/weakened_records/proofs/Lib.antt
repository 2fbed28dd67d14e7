pub mod PassedLaws
pub mod RecordLaws
pub mod CausalRecords
pub mod ConvergeRecords
pub mod StrictRecords
