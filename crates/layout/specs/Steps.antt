-- How the loops do it, a byte or an item at a time. No contract of a public operation cites these.
pub mod Number
pub mod List
pub mod Fill
pub mod Leading
pub mod Table
pub mod Stands
