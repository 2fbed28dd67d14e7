pub mod CheckText
pub mod Verdict
pub mod MadeText
pub mod WeakenText
pub mod Demand3
pub mod OneLine
