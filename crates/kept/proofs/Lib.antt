pub mod Counts
pub mod Collected
pub mod Anew
pub mod Staying
pub mod Kept
pub mod Reached
pub mod Counted
