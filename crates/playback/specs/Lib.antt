pub mod Recorded
pub mod Kept
pub mod Playing
pub mod Shares
