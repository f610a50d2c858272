pub mod Count
pub mod Values
pub mod Votes
pub mod Team
pub mod Agree
pub mod Own
pub mod Translation
