pub mod Place
pub mod ReadHistory
pub mod Steps
