pub mod Cuts
pub mod Laws
