-- How the functions do it. Only private functions' contracts and proofs cite these.
pub mod State
