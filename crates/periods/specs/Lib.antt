pub mod Refresh
pub mod Move
pub mod Laws
pub mod Mover
pub mod Keeper
pub mod Runs
