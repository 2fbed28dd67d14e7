pub mod RowsLaws
pub mod ListLaws
pub mod SequentialLaws
pub mod CausalLaws
