pub mod KnownAnswers
pub mod ViewNumbers
