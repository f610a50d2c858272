pub mod Grids
pub mod Sums
