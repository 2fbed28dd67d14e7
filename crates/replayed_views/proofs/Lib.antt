pub mod ObjectLaws
pub mod DecidingLaws
pub mod SearchLaws
pub mod CutLaws
