pub mod MadeLaws
pub mod TextLaws
