pub mod Light
pub mod Replay
pub mod Steps
pub mod Visible
