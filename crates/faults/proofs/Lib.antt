pub mod FindingLaws
pub mod FoundLaws
pub mod OrderLaws
pub mod ViewedLaws
pub mod RecordFacts
pub mod ReplayedLaws
pub mod CheckLaws
