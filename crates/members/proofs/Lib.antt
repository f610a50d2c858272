pub mod Sums
pub mod Turns
pub mod Done
pub mod Minds
