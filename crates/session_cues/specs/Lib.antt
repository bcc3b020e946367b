pub mod Cues
pub mod Laws
