pub mod ObjectRound
pub mod TextRound
pub mod TextLength
pub mod Theorems
pub mod EventLineTheorem
pub mod Guarantees
pub mod WriteTheorems
