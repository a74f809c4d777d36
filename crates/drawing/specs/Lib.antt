pub mod Fields
pub mod Look
pub mod Place
pub mod Refusal
pub mod Rooms
pub mod Runs
