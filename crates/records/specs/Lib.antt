pub mod Judged
pub mod Own
