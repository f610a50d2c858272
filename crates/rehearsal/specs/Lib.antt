pub mod Lived
pub mod Told
