-- How a line is read that begins at a place of a text. No contract of a public operation cites these.
pub mod Next
