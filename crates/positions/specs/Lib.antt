pub mod Positions
pub mod Laws
