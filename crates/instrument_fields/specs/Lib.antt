pub mod Fields
pub mod Ranges
pub mod Unused
