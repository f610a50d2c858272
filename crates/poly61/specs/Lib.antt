pub mod Points
pub mod Division
