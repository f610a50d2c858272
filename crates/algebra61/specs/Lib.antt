pub mod Field
pub mod Poly
pub mod Trim
pub mod Polynomial
pub mod Grid
pub mod Inverse
pub mod Nearest
