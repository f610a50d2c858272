pub mod Members
pub mod Factors
pub mod Shift
