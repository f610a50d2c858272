pub mod Basics
pub mod Shape
pub mod Read
pub mod Sync
pub mod Hears
pub mod Law
pub mod Part
