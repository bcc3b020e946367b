pub mod Patterns
pub mod Ends
