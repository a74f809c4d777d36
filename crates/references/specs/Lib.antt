pub mod Gather
pub mod Beside
