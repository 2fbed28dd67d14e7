pub mod EachReading
pub mod ReadLaws
pub mod PlaceLaws
pub mod EventPlaceLaws
pub mod RefusalLaws
