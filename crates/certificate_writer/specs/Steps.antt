-- How the functions do it, a line at a time. Only private functions' contracts and proofs cite these.
pub mod Fields
pub mod Lines
pub mod Text
