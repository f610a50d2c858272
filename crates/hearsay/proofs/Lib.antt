pub mod Lists
pub mod Items
pub mod Heard
pub mod Grids
pub mod Record
