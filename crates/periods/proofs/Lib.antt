pub mod Polynomials
pub mod Refreshing
pub mod Opening
pub mod Moving
pub mod Sixth
pub mod Runs
