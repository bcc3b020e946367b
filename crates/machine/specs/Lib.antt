pub mod Refusals
pub mod Machine
pub mod Laws
pub mod Longer
