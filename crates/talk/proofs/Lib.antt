pub mod Places
pub mod Ascending
pub mod Fit
pub mod Entries
pub mod Bits
pub mod Sync
