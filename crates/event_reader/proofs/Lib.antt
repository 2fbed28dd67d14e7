pub mod LineRound
pub mod EventRound
pub mod QuickLaws
pub mod NextLaws
