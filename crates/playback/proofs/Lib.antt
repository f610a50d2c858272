pub mod Places
pub mod Formed
pub mod Speaking
pub mod Fits
pub mod Ascent
pub mod Ends
pub mod Steps
