pub mod Energies
pub mod Adjust
