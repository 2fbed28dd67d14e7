pub mod LimitLaws
pub mod PieceLaws
pub mod WriteLaws
