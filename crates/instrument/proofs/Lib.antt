pub mod Lists
pub mod Order
