pub mod Events
pub mod Score
pub mod Contacts
pub mod Laws
pub mod Due
