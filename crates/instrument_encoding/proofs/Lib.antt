pub mod Lengths
pub mod Reread
pub mod Written
pub mod Rewritten
pub mod Given
pub mod Promises
