pub mod Examples
pub mod NumberLaws
pub mod OrderLaws
pub mod Outcomes
pub mod RowLaws
