pub mod Halvings
pub mod Middle
pub mod Guess
pub mod Threshold
pub mod Found
pub mod Bound
