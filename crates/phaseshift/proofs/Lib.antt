pub mod Coefficients
pub mod Members
pub mod Multiples
pub mod Room
pub mod Pushing
pub mod Grids
pub mod Translated
