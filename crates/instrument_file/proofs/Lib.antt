pub mod Tests
pub mod Filled
pub mod Order
