pub mod EachReading
pub mod ReadLaws
pub mod KeepLaws
pub mod PlaceLaws
pub mod TwoTextLaws
pub mod RefusalLaws
