pub mod Table
pub mod Soundness
pub mod Session
