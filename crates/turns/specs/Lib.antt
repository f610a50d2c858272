pub mod Turns
pub mod Account
pub mod Finished
