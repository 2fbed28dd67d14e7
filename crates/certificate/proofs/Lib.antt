pub mod RisingLaws
pub mod CriterionLaws
pub mod NumberingLaws
pub mod ListLineLaws
pub mod FitsLaws
pub mod LineTextLaws
pub mod NextLaws
pub mod Guarantees
