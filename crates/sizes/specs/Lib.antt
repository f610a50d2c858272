pub mod Committees
pub mod Instances
