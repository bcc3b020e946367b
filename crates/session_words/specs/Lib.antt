pub mod Layout
pub mod Items
pub mod Piano
pub mod PianoLaws
pub mod Session
pub mod Laws
