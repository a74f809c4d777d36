pub mod Anew
pub mod Live
pub mod Groups
pub mod Keys
pub mod Heads
pub mod Places
pub mod Levels
pub mod Records
