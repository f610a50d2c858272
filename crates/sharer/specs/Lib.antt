pub mod Sharer
pub mod View
