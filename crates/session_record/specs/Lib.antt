pub mod Record
pub mod Laws
pub mod Longer
