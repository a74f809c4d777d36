pub mod Tests
pub mod Facts
pub mod Ranks
pub mod Taken
pub mod Views
pub mod Writes
