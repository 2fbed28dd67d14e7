pub mod PlaceLaws
pub mod RewriteLaws
