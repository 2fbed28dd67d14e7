pub mod Record
pub mod Criteria
pub mod Faults
pub mod CertificateText
pub mod Readable
pub mod Steps
