pub mod Steps
pub mod Render
pub mod Hammers
pub mod Laws
pub mod Work
