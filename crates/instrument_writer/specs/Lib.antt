pub mod Pieces
pub mod Write
pub mod Saving
