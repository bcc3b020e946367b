pub mod Every
pub mod Below
pub mod Laws
pub mod Sums
pub mod Meets
