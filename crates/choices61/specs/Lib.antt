pub mod Sets
pub mod Views
pub mod Products
pub mod Translation
pub mod Phases
pub mod Other
pub mod Laws
