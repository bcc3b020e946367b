pub mod Longer
pub mod Past
