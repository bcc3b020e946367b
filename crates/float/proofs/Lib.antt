pub mod Ends
pub mod Rounding
