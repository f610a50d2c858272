pub mod Picks
pub mod Tallies
pub mod Conducts
pub mod Conductors
