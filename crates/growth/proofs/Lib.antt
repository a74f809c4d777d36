pub mod Given
pub mod Giving
pub mod Joining
pub mod After
pub mod Taken
pub mod Sound
pub mod Room
