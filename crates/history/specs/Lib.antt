pub mod Record
pub mod Kinds
pub mod Faults
pub mod HistoryText
pub mod Readable
pub mod Steps
