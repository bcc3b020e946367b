pub mod Contact
pub mod Guess
