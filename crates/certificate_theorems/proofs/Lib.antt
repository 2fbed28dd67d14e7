pub mod ListRound
pub mod TextRound
pub mod TextLength
pub mod Theorems
pub mod Guarantees
pub mod WriteTheorems
pub mod Places
