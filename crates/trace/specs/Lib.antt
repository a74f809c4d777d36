pub mod Marks
pub mod Gather
pub mod List
pub mod Trace
