pub mod Member
pub mod Shares
pub mod Laws
