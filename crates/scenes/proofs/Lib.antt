pub mod Masks
pub mod Circle
pub mod Draws
pub mod Sides
pub mod Following
pub mod LawfulOrders
pub mod Filling
