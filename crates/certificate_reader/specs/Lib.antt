pub mod ReadCertificate
pub mod Steps
