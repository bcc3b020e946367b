pub mod Strings
pub mod Walk
pub mod Laws
pub mod Bound
