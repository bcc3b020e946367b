pub mod Decimate
pub mod Steps
