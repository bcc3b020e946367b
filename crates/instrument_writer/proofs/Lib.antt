pub mod Stored
pub mod Records
pub mod Loops
pub mod Whole
