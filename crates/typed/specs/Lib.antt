pub mod Answers
pub mod Digits
pub mod Held
pub mod Orders
