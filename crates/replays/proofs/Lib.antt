pub mod ReplayLaws
pub mod LightLaws
pub mod HistoryLaws
pub mod VisibleLaws
