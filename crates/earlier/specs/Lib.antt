pub mod VerdictFrom
pub mod KnownAnswers
pub mod ProcessEach
