pub mod Made
pub mod Steps
