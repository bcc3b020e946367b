pub mod Power
pub mod Laws
pub mod Monotone
