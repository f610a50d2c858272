pub mod Numbers
pub mod Members
pub mod Scenes
pub mod Exposed
pub mod Law
pub mod Orders
pub mod Lawful
