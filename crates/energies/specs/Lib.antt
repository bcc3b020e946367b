pub mod Energy
pub mod Steps
pub mod Laws
