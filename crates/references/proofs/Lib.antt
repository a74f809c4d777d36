pub mod GatherLaws
pub mod BesideLaws
pub mod JudgeLaws
