pub mod Begun
pub mod Dealt
