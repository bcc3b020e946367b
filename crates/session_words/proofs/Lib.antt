pub mod PianoGiven
pub mod Given
pub mod Steps
pub mod Pieces
