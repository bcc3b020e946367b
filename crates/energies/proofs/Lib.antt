pub mod Sums
pub mod Call
