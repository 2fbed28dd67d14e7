pub mod UpdateLaws
pub mod LineLaws
pub mod RecordLaws
