pub mod NextRound
pub mod Spoken
