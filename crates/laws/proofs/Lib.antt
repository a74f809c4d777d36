pub mod Splice
pub mod Below
pub mod Bits
