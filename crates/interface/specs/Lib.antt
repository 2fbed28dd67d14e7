pub mod Places
pub mod Rewrite
pub mod Steps
