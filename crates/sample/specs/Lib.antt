pub mod Sample
pub mod Laws
