pub mod MarkLaws
pub mod GatherLaws
pub mod ListLaws
pub mod TraceLaws
