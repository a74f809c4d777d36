pub mod Spots
pub mod Gifts
