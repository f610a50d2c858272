pub mod Parts
pub mod Lists
pub mod Lawful
pub mod Ordered
pub mod Spelled
