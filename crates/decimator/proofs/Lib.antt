pub mod Cases
pub mod Windows
