-- How the functions do it, a line at a time. Only private functions' contracts and proofs cite these.
pub mod Criteria
pub mod Numbers
pub mod Lists
pub mod Next
