pub mod Picking
pub mod Pacing
