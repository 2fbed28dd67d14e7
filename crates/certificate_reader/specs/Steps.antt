-- How the functions do it, a part of the text at a time. Only private functions' contracts and proofs cite these.
pub mod Lines
