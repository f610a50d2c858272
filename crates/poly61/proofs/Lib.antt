pub mod Lists
pub mod Coefficients
pub mod Newton
pub mod Lagrange
