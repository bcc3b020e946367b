pub mod Numbers
pub mod Floats
pub mod Places
pub mod Bytes
pub mod Stores
