pub mod AllLaws
pub mod FieldLaws
pub mod LimitLaws
pub mod LineLaws
pub mod TextLaws
