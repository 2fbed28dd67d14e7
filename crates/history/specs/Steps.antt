-- How the functions do it, a field at a time. Only private functions' contracts and proofs cite these.
pub mod Fields
pub mod Next
