pub mod Words
pub mod Keystream
pub mod Boxes
